-- `closure::spread::Found::settle` meets its contract: each turn keeps what holds, and leaves less to do. Assumes
-- nothing.
use mathlib.Core.Path.{◌≡◌}
use Prim.Native.Nat.{◌<◌, ◌+◌, ◌*◌, ◌^◌}
use Rattle.model.specs.State.{State}
use Rattle.closure.specs.Words.{slack, Seeded}
use Rattle.closure.specs.Search.{closure_of, Going}
use Rattle.closure.proofs.spread.Found.settle.Given as goal

abbrev pub invariant-loop-self : goal.invariant-loop-self
invariant-loop-self l = record {
  from : l.from < 64;
  todo : l.todo ≡ l.self.readers.todo;
  going : (b : State) → Seeded (closure_of l.config b) l.initial.self
      → Going (closure_of l.config b) l.fine l.self l.done;
}

abbrev pub decreases-loop-self : goal.decreases-loop-self
decreases-loop-self l = (slack l.done * 2 ^ 64 + l.self.readers.todo) * 64 + l.from
