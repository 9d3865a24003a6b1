-- Question 22 and the stricter question 20: what is required of an operation, and some of their parts.
use Rattle.std.specs.Prelude.{ℕ, ◌≤◌, ◌<◌, ◌≡◌, List, Bool, true, false, not, ◌&&◌, ◌||◌, get_or, eqb}
use Rattle.model.specs.Base.{all}
use Rattle.model.specs.Config.{Entry, kind_of, entries}
use Rattle.model.specs.State.{State, object_in, held}
use Rattle.model.specs.Operation.{object_at, second_at}
use Rattle.model.specs.declared.Family.{Family}
use Rattle.model.specs.declared.Family.TheVariants.{Write}
use Rattle.model.specs.declared.Actor.{Actor}
use Rattle.model.specs.declared.Actor.TheVariants.{Driver, Device, External}
use Rattle.model.specs.declared.Config.{Config}
use Rattle.model.specs.declared.Operation.{Operation}

-- question 11: the value numbers that a write stores into kind 1 fit a byte
unfoldable pub Narrow : List ℕ → Operation → Family → Type 0
Narrow kind op f =
    f ≡ Write → (i : ℕ) → i < op.count → get_or kind (object_at op i) 0 ≡ 1 → second_at op i < 256

-- a device acts
abbrev pub by_device : Actor → Bool
by_device Driver = false
by_device Device = true
by_device External = false

-- the stricter question 20: an entry names no object with a 1 in the table
unfoldable pub spared_by : List ℕ → Entry → Bool
spared_by table e = not (eqb (get_or table e.object 0) 1)

-- object n, if it is a descriptor in zone z without a 1 in the table, holds a value whose entries name none with a 1
unfoldable pub goes_by : Config → State → List ℕ → ℕ → ℕ → Bool
goes_by config b table z n =
    not ((eqb (kind_of config n) 1 || eqb (kind_of config n) 4) && eqb (object_in b n) z) || eqb (get_or table n 0) 1
    || all (spared_by table) (entries config (held b n))

-- a table tells of each value whether its entries name no object with a 1
unfoldable pub Spares : Config → List ℕ → List Bool → Type 0
Spares config table spares =
    (v : ℕ) → v ≤ config.counts.values → get_or spares v false ≡ all (spared_by table) (entries config v)
