-- `effect::moves::move_owned` meets its contract: the objects before number n are moved, and no record behind the last
-- object is anybody's. Assumes nothing.
use Prim.Native.Nat.{min}
use mathlib.Core.Path.{ap, ◌∙◌}
use native.Mathlib.Omega.{arith}
use Rattle.model.specs.State.{view}
use Rattle.effect.proofs.Moving.{move_none, move_within, move_past, move_owned_end}
use Rattle.effect.proofs.moves.move_owned.Goals as goal
use Rattle.effect.proofs.moves.move_owned.Goals.{then-owns, else-owns}

pub loop-n-init : goal.loop-n-init
loop-n-init c = search move_none

pub loop-n-preserved : goal.loop-n-preserved
loop-n-preserved c =
    elim c.if-owns.branch [
      | then-owns w ↦ move_within _ _ _ _ _ _ _ _ _ c.loop-n.invariant c.loop-n.auto.n c.loop-n-test.true _
          (c.min-last.ensures ∙ ap (min c.args.room) c.from.ensures) _ c.owns.ensures
          _ w.if-owns.true (w.area-is ∙ w.move_one.ensures)
      | else-owns w ↦ ap (view c.args.room) w.area-is
          ∙ move_past _ _ _ _ _ _ _ _ _ c.loop-n.invariant c.loop-n.auto.n c.loop-n-test.true _
          (c.min-last.ensures ∙ ap (min c.args.room) c.from.ensures) _ c.owns.ensures
          (c.loop-n.auto.area ∙ c.requires) w.if-owns.false
    ]

pub returns : goal.returns
returns c =
    move_owned_end _ _ _ _ _ _ _ _ _ _ (c.min-last.ensures ∙ ap (min c.args.room) c.from.ensures) (omega arith)
    c.loop-n.auto.area c.requires c.loop-n.invariant
