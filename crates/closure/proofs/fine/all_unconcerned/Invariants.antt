-- `closure::fine::all_unconcerned` meets its contract: the words below o are set. Assumes nothing.
use lib.ListN.{length, get_or}
use mathlib.Core.Path.{◌≡◌}
use Prim.Native.Nat.{ℕ, ◌≤◌, ◌<◌}
use Rattle.scene.specs.Rules.{naming}
use Rattle.scene.specs.Scene.{object_slots}
use Rattle.closure.specs.Search.{FineWord}
use Rattle.closure.proofs.fine.all_unconcerned.Given as goal

abbrev pub invariant-loop-o : goal.invariant-loop-o
invariant-loop-o l =
    (length l.f ≡ object_slots)
    × ((j : ℕ) → 1 ≤ j → j < l.o
    → FineWord (naming l.concerned l.but) l.config.counts.devices j (get_or l.f j 0))
