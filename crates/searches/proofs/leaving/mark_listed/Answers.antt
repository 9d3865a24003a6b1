-- `searches::leaving::mark_listed` meets its contract: the objects listed so far are marked. Assumes nothing.
use mathlib.Core.Path.{◌≡◌, refl, ◌∙◌, subst}
use native.Mathlib.Omega.{arith}
use Prim.Native.Nat.{ℕ}
use lib.ListN.{length-set}
use Rattle.effect.specs.Moves.{listed}
use Rattle.searches.specs.Asking.{Marks}
use Rattle.searches.proofs.Marking
use Rattle.searches.proofs.leaving.mark_listed.Goals as goal

pub loop-i-init : goal.loop-i-init
loop-i-init c = record { long = refl; marked = Marking.listed_start _ }

pub bounds-table-number_of : goal.bounds-table-number_of
bounds-table-number_of c = Marking.small-place _ _ _ c.loop-i-test.true c.requires c.number_of.ensures

pub loop-i-preserved : goal.loop-i-preserved
loop-i-preserved c =
    let i = c.loop-i.invariant in
    record {
      long = length-set _ _ _ ∙ i.long;
      marked = Marking.listed_turn _ _ _ _ i.marked c.loop-i-test.true c.requires i.long c.number_of.ensures;
    }

pub returns : goal.returns
returns c =
    let e : c.loop-i.i ≡ c.args.count = omega arith in
    subst (λ (k : ℕ). Marks c.loop-i.table (listed c.args.list.now k)) e c.loop-i.invariant.marked
