-- `closure::fine::all_inside` meets its contract: the words below o are set. Assumes nothing.
use lib.ListN.{length, get_or}
use mathlib.Core.Path.{◌≡◌}
use Prim.Native.Nat.{ℕ, ◌≤◌, ◌<◌}
use Rattle.state.specs.Shown.{shown}
use Rattle.scene.specs.Rules.{crossing}
use Rattle.scene.specs.Scene.{object_slots}
use Rattle.closure.specs.Search.{FineWord}
use Rattle.closure.proofs.fine.all_inside.Given as goal

abbrev pub invariant-loop-o : goal.invariant-loop-o
invariant-loop-o l =
    (length l.f ≡ object_slots)
    × ((j : ℕ) → 1 ≤ j → j < l.o
    → FineWord (crossing l.config.objects.kind (shown l.area)) l.config.counts.devices j (get_or l.f j 0))
