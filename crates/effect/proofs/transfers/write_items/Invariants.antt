-- `effect::transfers::write_items` meets its contract: the first i items are stored. Assumes nothing.
use mathlib.Core.Path.{◌≡◌}
use Rattle.model.specs.State.{view}
use Rattle.effect.specs.Transfers.{written}
use Rattle.effect.proofs.transfers.write_items.Given as goal

abbrev pub invariant-loop-i : goal.invariant-loop-i
invariant-loop-i l = view l.room l.area ≡ written l.op l.i (view l.room l.initial.area)
