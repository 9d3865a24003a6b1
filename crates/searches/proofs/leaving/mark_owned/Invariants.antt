-- `searches::leaving::mark_owned` meets its contract: the objects below n are marked, and none from n on. Assumes
-- nothing.
use lib.ListN.{length}
use mathlib.Core.Path.{◌≡◌}
use Rattle.model.specs.Config.{owns}
use Rattle.searches.proofs.Marking.{slots, Upto}
use Rattle.searches.proofs.leaving.mark_owned.Given as goal

abbrev pub invariant-loop-n : goal.invariant-loop-n
invariant-loop-n l =
    record {
      long : length l.table ≡ slots;
      marked : Upto l.table (owns l.config l.class l.k) l.n;
    }
