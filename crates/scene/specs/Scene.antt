-- What a search for the closure looks at: a configuration, whether write entries count, and a state. Functions have
-- some of the configuration's columns; their contracts hold whatever the rest is.
use Rattle.std.specs.Prelude.{ℕ, suc, ◌+◌, ◌≤◌, ◌≡◌, Bool, true, false, List, get_or}
use Rattle.model.specs.Config.{
  most_devices,
  most_objects,
  most_values,
  most_entries,
  most_mode,
  hardcoded_to,
  entry_place,
  Entry,
  entry_at,
}
use Rattle.model.specs.State.{State, held}
use Rattle.model.specs.Closure.{Reads}
use Rattle.model.specs.declared.Counts.{Counts}
use Rattle.model.specs.declared.Devices.{Devices}
use Rattle.model.specs.declared.Config.{Config}
use Rattle.scene.specs.Rules.{holds_value}

pub record Scene : Type 0 where
  pub config : Config
  -- whether write entries count
  pub storing : Bool
  pub state : State

-- how many words there are for objects and for values
abbrev pub object_slots : ℕ
object_slots = suc most_objects

abbrev pub value_slots : ℕ
value_slots = suc most_values

-- the configuration with these columns: kind, class, owner; entry counts, entries. No search looks at the hardcoded
-- values of the devices d
abbrev pub search_config : Devices → Counts → List ℕ → List ℕ → List ℕ → List ℕ → List ℕ → Config
search_config d n kind class owner count entries =
    record {
      counts = n;
      objects = record { kind = kind; class = class; owner = owner };
      devices = d;
      values = record { count = count; entries = entries };
    }

abbrev pub scene_of : Devices → Counts → List ℕ → List ℕ → List ℕ → List ℕ → List ℕ → Bool → State → Scene
scene_of d n kind class owner count entries storing b =
    record { config = search_config d n kind class owner count entries; storing = storing; state = b }

-- the scene m with the kinds by which a transfer is looked up; write entries do not count
abbrev pub looking : Scene → List ℕ → Scene
looking m kind =
    scene_of m.config.devices m.config.counts kind m.config.objects.class m.config.objects.owner
    m.config.values.count m.config.values.entries false m.state

-- entry j, from 1, of value v
abbrev pub entry_of : Scene → ℕ → ℕ → Entry
entry_of m v j = entry_at m.config.values.entries (entry_place v j)

abbrev pub count_of : Scene → ℕ → ℕ
count_of m v = get_or m.config.values.count v 0

-- a number from 1 to n
pub record In (n k : ℕ) : Type 0 where
  pub low : 1 ≤ k
  pub high : k ≤ n

-- the entry at a place of the table is one, and what it names
pub record EntryOk (entries : List ℕ) (at : ℕ) : Type 0 where
  pub place : at ≤ entry_place most_values most_entries
  pub object : get_or entries at 0 ≤ most_objects
  pub mode : In most_mode (get_or entries (at + 1) 0)
  pub stored : get_or entries (at + 2) 0 ≤ most_values

-- the values of an accepted configuration
pub record ValuesOk (config : Config) : Type 0 where
  pub few-devices : config.counts.devices ≤ most_devices
  pub few-objects : config.counts.objects ≤ most_objects
  pub few-values : config.counts.values ≤ most_values
  pub no_entries : get_or config.values.count 0 0 ≡ 0
  pub few-entries : (v : ℕ) → v ≤ config.counts.values → get_or config.values.count v 0 ≤ most_entries
  pub object_known : (v j : ℕ) → v ≤ config.counts.values → In (get_or config.values.count v 0) j
      → In config.counts.objects (get_or config.values.entries (entry_place v j) 0)
  pub mode_known : (v j : ℕ) → v ≤ config.counts.values → In (get_or config.values.count v 0) j
      → In most_mode (get_or config.values.entries (entry_place v j + 1) 0)
  pub stored_known : (v j : ℕ) → v ≤ config.counts.values → In (get_or config.values.count v 0) j
      → get_or config.values.entries (entry_place v j + 2) 0 ≤ config.counts.values

-- the owners of an accepted configuration
pub record OwnersOk (config : Config) : Type 0 where
  pub few-devices : config.counts.devices ≤ most_devices
  pub device_known : (o : ℕ) → In config.counts.objects o → get_or config.objects.class o 0 ≡ 2
      → In config.counts.devices (get_or config.objects.owner o 0)

-- an area with room for the objects, whose descriptors hold values that exist
pub record AreaOk (config : Config) (room : ℕ) (b : State) : Type 0 where
  pub few-objects : config.counts.objects ≤ most_objects
  pub few-values : config.counts.values ≤ most_values
  pub in_room : config.counts.objects ≤ room
  pub held_known : (o : ℕ) → In config.counts.objects o → holds_value (get_or config.objects.kind o 0) ≡ true
      → held b o ≤ config.counts.values

-- what a search requires of a configuration and of an area
pub record Searchable (config : Config) (room : ℕ) (b : State) : Type 0 where
  pub values : ValuesOk config
  pub owners : OwnersOk config
  pub held : AreaOk config room b

module _ (m : Scene) where
  -- device c reads a pair with value v
  pub record Reading (c v : ℕ) : Type 0 where
    pub object : ℕ
    pub read : Reads m.config m.storing m.state c object v

  -- a hardcoded descriptor is a device's of the configuration
  abbrev pub Owners : Type 0
  Owners = (c o : ℕ) → hardcoded_to m.config c o ≡ true → In m.config.counts.devices c
