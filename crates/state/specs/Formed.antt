-- The parts of question 9, each as one test that the code answers.
use Rattle.std.specs.Prelude.{ℕ, zero, suc, Option, None, Some, ◌≡◌, List, Bool, true, false, not, ◌&&◌, ◌||◌}
use Rattle.std.specs.Prelude.{get_or, leb, eqb, replicate}
use Rattle.model.specs.Base.{all, every}
use Rattle.model.specs.Config.{most_drivers, most_devices, kind_of, owner_of, hardcoded_of}
use Rattle.model.specs.State.{
  State,
  status_of,
  driver_in,
  device_in,
  object_in,
  content_of,
  value_bytes,
  green_status,
  stands,
  assigned,
  right_assignment,
  right_lock,
  same_bytes,
  with_owner,
}
use Rattle.model.specs.declared.Config.{Config}
use Rattle.state.specs.declared.tables.Tables.{Tables}

unfoldable pub statuses_right : State → Bool
statuses_right b = eqb (status_of b 0) 0 && all (λ s. leb s green_status) b.status

-- the partition bytes of all drivers and of all devices
unfoldable pub assignments_right : Config → State → Bool
assignments_right config b =
    every most_drivers (λ d. right_assignment b config.counts.drivers d (driver_in b d))
    && every most_devices (λ c. right_assignment b config.counts.devices c (device_in b c))

-- the locks of all devices
unfoldable pub locks_right : Config → State → Bool
locks_right config b = every most_devices (λ c. right_lock config b c)

unfoldable pub is_value : List ℕ → ℕ → Bool
is_value c v = same_bytes c (value_bytes v)

unfoldable pub is_value_to : List ℕ → ℕ → Bool
is_value_to c most = leb (get_or c 0 0) most && is_value c (get_or c 0 0)

-- contents and partition of object n, which is present
unfoldable pub content_right : Config → State → ℕ → Bool
content_right config b n =
    (not (eqb (kind_of config n) 1) || is_value_to (content_of b n) config.counts.values)
    && (not (eqb (kind_of config n) 4) || is_value (content_of b n) (hardcoded_of config (owner_of config n)))

unfoldable pub place_right : Config → State → ℕ → Bool
place_right config b n = assigned b (object_in b n) && with_owner config b n

-- every driver and every device is in no partition, or in an existing one
unfoldable pub Housed : State → Type 0
Housed b = (n : ℕ) → (assigned b (driver_in b n) ≡ true) × (assigned b (device_in b n) ≡ true)

-- how many values a byte has
abbrev pub byte_values : ℕ
byte_values = 256

-- the partition p of an owned object is that of its owner, and none or existing by the tables, unless it is known that
-- the owner's is
unfoldable pub at_home : Tables → ℕ → ℕ → Bool
at_home t p home = eqb p home && (t.housed || stands (get_or t.named p 0))

-- tables of which nothing is put down yet
pub record IsBlank (t : Tables) : Type 0 where
  pub named : t.named ≡ replicate byte_values 0
  pub drivers : t.drivers ≡ replicate byte_values 0
  pub devices : t.devices ≡ replicate byte_values 0
  pub housed : t.housed ≡ false

-- what the tables say of a state: a status that stands for 0 and for every existing partition, and for no other number;
-- the partitions of drivers and of devices; and, if the head was found good, that these are none or exist
pub record TablesOf (b : State) (t : Tables) : Type 0 where
  pub statuses : (p : ℕ) → stands (get_or t.named p 0) ≡ assigned b p
  pub of_drivers : (d : ℕ) → get_or t.drivers d 0 ≡ driver_in b d
  pub of_devices : (c : ℕ) → get_or t.devices c 0 ≡ device_in b c
  pub good : t.housed ≡ true → Housed b

-- what a walk answers: the number of the record that it found, if any
unfoldable pub found : ℕ → Option ℕ
found zero = None
found (suc n) = Some (suc n)
