-- `closure::spread::Found::apply_entries` meets its contract: the entries before j are applied, and name nothing
-- strange. Assumes nothing.
use Rattle.model.specs.State.{State}
use Rattle.closure.specs.Words.{Grew, Each, Sound, EntriesIn}
use Rattle.closure.specs.Search.{closure_of, NoStrange}
use Rattle.closure.proofs.spread.Found.apply_entries.Given as goal

abbrev pub invariant-loop-j : goal.invariant-loop-j
invariant-loop-j l = record {
  grew : Grew l.initial.self l.self;
  sound : (b : State) → Each (closure_of l.config b) l.r l.v → Sound (closure_of l.config b) l.initial.self.known
      → Sound (closure_of l.config b) l.self.known;
  entries_in : (b : State) → EntriesIn (closure_of l.config b) l.self.known l.r l.v l.j;
  no_strange : NoStrange l.config l.fine l.r l.v l.j;
}
