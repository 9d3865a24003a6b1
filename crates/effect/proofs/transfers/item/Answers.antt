-- `effect::transfers::item` meets its contract: a law for each form. Assumes nothing.
use native.Mathlib.Omega.{arith}
use Rattle.effect.proofs.Carrying.{item-value, item_raw}
use Rattle.effect.proofs.transfers.item.Goals as goal

pub returns-then-number_of-eq0 : goal.returns-then-number_of-eq0
returns-then-number_of-eq0 c = search item-value

pub returns-else-number_of-eq0 : goal.returns-else-number_of-eq0
returns-else-number_of-eq0 c =
    item_raw _ _ _ _ (omega arith) c.number_of.ensures c.if-number_of-eq0.false c.load.ensures
