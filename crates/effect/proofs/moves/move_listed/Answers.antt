-- `effect::moves::move_listed` meets its contract: the first i of the list are moved. Assumes nothing.
use native.Mathlib.Omega.{arith}
use Rattle.effect.proofs.Moving.{list_none, list_on, list_end}
use Rattle.effect.proofs.moves.move_listed.Goals as goal

pub loop-i-init : goal.loop-i-init
loop-i-init c = search list_none

pub loop-i-preserved : goal.loop-i-preserved
loop-i-preserved c = list_on _ _ _ _ _ _ _ _ _ _ c.loop-i.invariant c.number_of.ensures c.move_one.ensures

pub returns : goal.returns
returns c =
    list_end _ _ _ _ _ _ _ _ _ c.loop-i.auto.area c.requires c.loop-i.invariant (omega arith) (omega arith)
