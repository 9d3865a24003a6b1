-- `effect::moves::move_listed` meets its contract: the first i of the list are moved. Assumes nothing.
use mathlib.Core.Path.{◌≡◌}
use Rattle.model.specs.State.{view}
use Rattle.effect.specs.Moves.{moved, listed}
use Rattle.effect.proofs.moves.move_listed.Given as goal

abbrev pub invariant-loop-i : goal.invariant-loop-i
invariant-loop-i l =
    view l.room l.area ≡ moved (listed l.op.objects l.i) l.config l.clears l.p (view l.room l.initial.area)
