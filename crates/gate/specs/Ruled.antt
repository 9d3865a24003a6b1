-- Whom question 22 is put to: who stores in a green zone, unless a device acts, and a device that comes into one.
use Rattle.std.specs.Prelude.{Bool, not, cond, ◌&&◌}
use Rattle.model.specs.State.{State, green}
use Rattle.model.specs.Questions.{zone_of}
use Rattle.model.specs.declared.Family.{Family}
use Rattle.model.specs.declared.Actor.{Actor}
use Rattle.model.specs.declared.Operation.{Operation}
use Rattle.green.specs.Rule.{by_device}
use Rattle.searches.specs.Asking.{stores, enters}

abbrev pub ruled : State → Operation → Family → Actor → Bool
ruled b op f a =
    cond (stores f) (not (by_device a) && green b (zone_of b op a)) (enters f a && green b op.partition)
