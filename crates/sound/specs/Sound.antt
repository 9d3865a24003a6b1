-- Questions 5 and 6 by the parts in which they are put. proofs/Questions has that these are the model's.
use Rattle.std.specs.Prelude.{ℕ, zero, suc, ◌+◌, List, Bool, true, not, cond, ◌&&◌, ◌||◌, get_or, set, eqb}
use Rattle.model.specs.Base.{all, every}
use Rattle.model.specs.Config.{entry_place, kind_of, class_of, owner_of, hardcoded_of, Entry, entries_from}
use Rattle.model.specs.ConfigFile.{how_many, own_entry}
use Rattle.model.specs.declared.Config.{Config}

-- places up to here are far below the largest number of a machine word
abbrev pub far_place : ℕ
far_place = 65536

-- the model's `every` and `how_many` under names that stay shut, so that laws match by their arguments
unfoldable pub every_to : ℕ → (ℕ → Bool) → Bool
every_to n p = every n p

unfoldable pub tally : ℕ → (ℕ → Bool) → ℕ
tally n p = how_many n p

-- object n is of kind 4 and device c's
unfoldable pub marks : Config → ℕ → ℕ → Bool
marks config c n = eqb (kind_of config n) 4 && eqb (class_of config n) 2 && eqb (owner_of config n) c

-- object n is not of kind 4, or a device's
unfoldable pub device_owned : Config → ℕ → Bool
device_owned config n = not (eqb (kind_of config n) 4) || eqb (class_of config n) 2

-- a table of how many hardcoded descriptors each device has, after one more object
unfoldable pub noted : List ℕ → ℕ → ℕ → ℕ → List ℕ
noted owned kind class owner = cond (eqb kind 4 && eqb class 2) (set owned owner (get_or owned owner 0 + 1)) owned

-- device c has exactly one by that table
unfoldable pub one_in : List ℕ → ℕ → Bool
one_in owned c = eqb (get_or owned c 0) 1

-- the k entries from a place on pass
unfoldable pub all_from : (Entry → Bool) → List ℕ → ℕ → ℕ → Bool
all_from p table at k = all p (entries_from table at k)

-- the entries of value w pass
unfoldable pub value_passes : (Entry → Bool) → List ℕ → List ℕ → ℕ → Bool
value_passes p count table zero = true
value_passes p count table (suc v) = all_from p table (entry_place (suc v) 1) (get_or count (suc v) 0)

-- the hardcoded value of device c passes
unfoldable pub device_restrained : Config → ℕ → Bool
device_restrained config c =
    value_passes (own_entry config c) config.values.count config.values.entries (hardcoded_of config c)
