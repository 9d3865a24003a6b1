-- Whom questions 18 to 22 concern, and the table of the objects that a deactivation concerns.
use Rattle.std.specs.Prelude.{ℕ, ◌≤◌, ◌<◌, ◌≡◌, Bool, true, false, not, cond, ◌&&◌, List, get_or, eqb}
use Rattle.model.specs.Config.{most_objects}
use Rattle.model.specs.State.{State, green}
use Rattle.model.specs.Questions.{zone_of}
use Rattle.model.specs.declared.Family.{Family}
use Rattle.model.specs.declared.Family.TheVariants.{Write, Copy, Activate, Deactivate}
use Rattle.model.specs.declared.Actor.{Actor}
use Rattle.model.specs.declared.Operation.{Operation}
use Rattle.green.specs.Rule.{by_device}

-- a write or a copy
abbrev pub stores : Family → Bool
stores Write = true
stores Copy = true
stores f = false

abbrev pub leaves : Family → Bool
leaves Deactivate = true
leaves f = false

abbrev pub activates : Family → Bool
activates Activate = true
activates f = false

-- a device is brought in
abbrev pub enters : Family → Actor → Bool
enters f a = activates f && by_device a

-- questions 19 and 21: whether one of them is put; 19 is not, in a green zone
abbrev pub follows : State → Operation → Family → Actor → Bool
follows b op f a = cond (stores f) (not (by_device a) && not (green b (zone_of b op a))) (enters f a)

-- question 20: a table has a 1 at exactly the objects that pass
unfoldable pub Marks : List ℕ → (ℕ → Bool) → Type 0
Marks table p = (o : ℕ) → eqb (get_or table o 0) 1 ≡ p o

-- the first k numbers of a list are places of a table of objects
unfoldable pub InTable : List ℕ → ℕ → Type 0
InTable list k = (i : ℕ) → i < k → get_or list i 0 ≤ most_objects
