-- `closure::spread::Found::begin` meets its contract: the words below o are set, and their devices given to their
-- values. Assumes nothing.
use lib.ListN.{length, get_or}
use mathlib.Core.Path.{◌≡◌}
use Prim.Native.Nat.{ℕ, ◌≤◌, ◌<◌}
use Rattle.state.specs.Shown.{shown}
use Rattle.scene.specs.Digits.{bit, Has}
use Rattle.scene.specs.Scene.{In, object_slots}
use Rattle.closure.specs.Words.{By, Covered, Sound, BegunAt}
use Rattle.closure.specs.Search.{closure_of}
use Rattle.closure.proofs.spread.Found.begin.Given as goal

abbrev pub invariant-loop-o : goal.invariant-loop-o
invariant-loop-o l = record {
  long : length l.found.known ≡ object_slots;
  rest : (j : ℕ) → l.o ≤ j → get_or l.found.known j 0 ≡ 0;
  by : By l.found.known l.found.readers.of;
  covers : Covered l.found.known l.found.readers.of;
  marked : (v n : ℕ) → Has l.found.readers.of v n → bit l.found.readers.todo v ≡ 1;
  sound : Sound (closure_of l.config (shown l.area)) l.found.known;
  given : (j : ℕ) → j < l.o → In l.config.counts.objects j
      → BegunAt (closure_of l.config (shown l.area)) l.found.known j;
}
