-- `effect::transfers::write_items` meets its contract: the first i items are stored. Assumes nothing.
use native.Mathlib.Omega.{arith}
use borrow.Author.Rules.{rules}
use Rattle.effect.proofs.Carrying.{item-fits, write_none, write_on, write_end}
use Rattle.effect.proofs.transfers.write_items.Goals as goal

pub loop-i-init : goal.loop-i-init
loop-i-init c = search write_none

pub item-requires-clause-small : goal.item-requires-clause-small
item-requires-clause-small c = search item-fits

pub loop-i-preserved : goal.loop-i-preserved
loop-i-preserved c =
    write_on _ _ _ _ _ _ _ _ c.loop-i.invariant c.number_of.ensures c.item.ensures (search rules) c.store.ensures

pub returns : goal.returns
returns c = write_end _ _ _ _ _ c.loop-i.auto.area c.requires.area_len.0 c.loop-i.invariant (omega arith)
