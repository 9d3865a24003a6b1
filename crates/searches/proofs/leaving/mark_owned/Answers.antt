-- `searches::leaving::mark_owned` meets its contract: the objects below n are marked, and none from n on. Assumes
-- nothing.
use mathlib.Core.Path.{refl, ◌∙◌}
use native.Mathlib.Omega.{arith}
use lib.ListN.{length-set}
use Rattle.searches.proofs.Marking
use Rattle.searches.proofs.leaving.mark_owned.Goals as goal

pub loop-n-init : goal.loop-n-init
loop-n-init c = record { long = refl; marked = Marking.owned-start c.args.config.now _ _ }

pub loop-n-preserved : goal.loop-n-preserved
loop-n-preserved c =
    let i = c.loop-n.invariant in
    record {
      long = length-set _ _ _ ∙ i.long;
      marked = rw c.from.ensures
          (Marking.owned_turn c.args.config.now _ _ _ _ i.marked (omega arith) (omega arith) i.long c.owns.ensures);
    }

pub returns : goal.returns
returns c =
    Marking.owned_end c.args.config.now _ _ _ _ c.loop-n.invariant.marked (omega (arith, c.from-n-end.ensures))
