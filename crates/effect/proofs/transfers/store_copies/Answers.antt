-- `effect::transfers::store_copies` meets its contract: the first i destinations are stored. Assumes nothing.
use native.Mathlib.Omega.{arith}
use borrow.Author.Rules.{rules}
use Rattle.effect.proofs.Carrying.{store_copies_none, store_copies_on, store_copies_end}
use Rattle.effect.proofs.transfers.store_copies.Goals as goal

pub loop-i-init : goal.loop-i-init
loop-i-init c = search store_copies_none

pub loop-i-preserved : goal.loop-i-preserved
loop-i-preserved c =
    store_copies_on _ _ _ _ _ _ _ _ _ c.loop-i.invariant c.number_of.ensures c.load-c.ensures (search rules)
    c.store.ensures

pub returns : goal.returns
returns c = store_copies_end _ _ _ _ _ _ _ c.loop-i.auto.area c.requires.0 c.loop-i.invariant (omega arith)
