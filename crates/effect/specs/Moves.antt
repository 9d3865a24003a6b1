-- What the loops over objects do to a state that they move in.
use Rattle.std.specs.Prelude.{ℕ, List, [], Bool, true, false, not, ◌&&◌, cond, get_or, eqb}
use Rattle.model.specs.Base.{number, below}
use Rattle.model.specs.Config.{kind_of, owns}
use Rattle.model.specs.State as Columns
use Rattle.model.specs.State.{State, cleared}
use Rattle.model.specs.declared.Actor.{Actor}
use Rattle.model.specs.declared.Actor.TheVariants.{Driver, Device, External}
use Rattle.model.specs.declared.Config.{Config}
use Rattle.model.specs.declared.Operation.{Operation}
use Rattle.state.specs.Change.{with_driver, with_device, with_object, with_content, objects_lent}

-- object n to partition p, cleared or not, where it is hit
unfoldable pub moved_at : Bool → Bool → ℕ → ℕ → State → State
moved_at false clears n p b = b
moved_at true false n p b = with_object b n p
moved_at true true n p b = with_content (with_object b n p) n cleared

-- an object of kind 4 is never cleared
unfoldable pub clearable : Config → Bool → ℕ → Bool
clearable config clears n = clears && not (eqb (kind_of config n) 4)

-- all objects that are hit to partition p, cleared unless of kind 4 where that is asked
unfoldable pub moved : (ℕ → Bool) → Config → Bool → ℕ → State → State
moved hit config clears p b =
    Columns.with_content (Columns.with_object b (number 0 (λ n q. cond (hit n) p q) b.object))
    (number 0 (λ n c. cond (hit n && clearable config clears n) cleared c) b.content)

-- the objects of a driver (class 1) or a device (class 2)
unfoldable pub owned_by : ℕ → List ℕ → List ℕ → ℕ → ℕ → ℕ → Bool
owned_by objects class owner a k n = owns (objects_lent objects 0 [] class owner []) a k n

-- the first k objects of a list
unfoldable pub listed : List ℕ → ℕ → ℕ → Bool
listed l k n = not (below k (λ i. not (eqb (get_or l i 0) n)))

-- the driver or device that an operation names to partition p; listed objects have none
unfoldable pub with_subject : Operation → Actor → ℕ → State → State
with_subject op Driver p b = with_driver b op.subject p
with_subject op Device p b = with_device b op.subject p
with_subject op External p b = b
