-- `effect::transfers::read_out` meets its contract: the contents of the first i sources are in the answer area.
-- Assumes nothing.
use native.Mathlib.Omega.{arith}
use Rattle.effect.proofs.Carrying.{read_out_none, read_out_on, read_out_end}
use Rattle.effect.proofs.transfers.read_out.Goals as goal

pub loop-i-init : goal.loop-i-init
loop-i-init c = search read_out_none

pub loop-i-preserved : goal.loop-i-preserved
loop-i-preserved c =
    read_out_on _ _ _ _ _ _ _ _ _ c.loop-i.invariant c.number_of.ensures c.content-c.ensures c.save.ensures

pub returns : goal.returns
returns c = read_out_end _ _ _ _ _ _ c.loop-i.invariant (omega arith)
