-- The tests of the closure's rules by the columns that the code looks at. proofs/Ranges has that in range these are the
-- model's.
use Rattle.std.specs.Prelude.{ℕ, Bool, not, ◌&&◌, ◌||◌, List, eqb, get_or}
use Rattle.model.specs.Config.{Entry, reads, writes}
use Rattle.model.specs.State.{State, device_in, object_in}

-- the kinds of a descriptor
abbrev pub holds_value : ℕ → Bool
holds_value kind = eqb kind 1 || eqb kind 4

-- the modes that read, and those that write
abbrev pub reads_mode : ℕ → Bool
reads_mode mode = eqb mode 1 || eqb mode 3

abbrev pub writes_mode : ℕ → Bool
writes_mode mode = eqb mode 2 || eqb mode 3

-- an entry reads a descriptor
unfoldable pub opens : List ℕ → Entry → Bool
opens kind e = reads e && holds_value (get_or kind e.object 0)

-- an entry writes an object of kind 1, and write entries count
unfoldable pub stores : List ℕ → Bool → Entry → Bool
stores kind storing e = storing && writes e && eqb (get_or kind e.object 0) 1

-- object o is an active descriptor
unfoldable pub starts : List ℕ → State → ℕ → Bool
starts kind b o = holds_value (get_or kind o 0) && not (eqb (object_in b o) 0)

-- device c is active, and object o is its hardcoded descriptor
unfoldable pub owned : List ℕ → List ℕ → List ℕ → State → ℕ → ℕ → Bool
owned kind class owner b c o =
    not (eqb (device_in b c) 0) && (eqb (get_or kind o 0) 4 && eqb (get_or class o 0) 2 && eqb (get_or owner o 0) c)

-- an entry of device c that names object o is cross-partition
unfoldable pub crossing : List ℕ → State → ℕ → ℕ → Bool
crossing kind b c o = eqb (get_or kind o 0) 4 || not (eqb (object_in b o) (device_in b c))

-- object o is concerned, and device c another one than the one left out
unfoldable pub naming : List ℕ → ℕ → ℕ → ℕ → Bool
naming concerned but c o = not (eqb c but) && eqb (get_or concerned o 0) 1
