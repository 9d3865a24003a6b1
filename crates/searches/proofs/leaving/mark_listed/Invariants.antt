-- `searches::leaving::mark_listed` meets its contract: the objects listed so far are marked. Assumes nothing.
use lib.ListN.{length}
use mathlib.Core.Path.{◌≡◌}
use Rattle.searches.specs.Asking.{Marks}
use Rattle.effect.specs.Moves.{listed}
use Rattle.searches.proofs.Marking.{slots}
use Rattle.searches.proofs.leaving.mark_listed.Given as goal

abbrev pub invariant-loop-i : goal.invariant-loop-i
invariant-loop-i l =
    record { long : length l.table ≡ slots; marked : Marks l.table (listed l.list l.i) }
