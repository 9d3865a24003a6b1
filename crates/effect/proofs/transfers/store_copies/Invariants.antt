-- `effect::transfers::store_copies` meets its contract: the first i destinations are stored. Assumes nothing.
use mathlib.Core.Path.{◌≡◌}
use Rattle.model.specs.State.{view}
use Rattle.effect.specs.Transfers.{restored}
use Rattle.effect.proofs.transfers.store_copies.Given as goal

abbrev pub invariant-loop-i : goal.invariant-loop-i
invariant-loop-i l = view l.room l.area ≡ restored l.op.seconds l.answer l.i (view l.room l.initial.area)
