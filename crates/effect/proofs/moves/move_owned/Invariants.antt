-- `effect::moves::move_owned` meets its contract: the objects before number n are moved, and no record behind the last
-- object is anybody's. Assumes nothing.
use Prim.Native.Nat.{◌-◌}
use mathlib.Core.Path.{◌≡◌}
use Rattle.model.specs.Config.{owns}
use Rattle.model.specs.State.{view}
use Rattle.effect.proofs.Moving.{moved_to}
use Rattle.effect.proofs.moves.move_owned.Given as goal

abbrev pub invariant-loop-n : goal.invariant-loop-n
invariant-loop-n l =
    view l.room l.area ≡ moved_to (owns l.config l.class l.k) l.config l.clears l.p (l.n - 1) (view l.room
    l.initial.area)
