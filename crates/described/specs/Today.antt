-- Question 18: the values that a device reads with today's values, as a word, and the entry that a transfer wants.
use Rattle.std.specs.Prelude.{ℕ, ◌≤◌, ◌≡◌, Bool, true, false, List, get_or}
use Rattle.model.specs.Config.{Entry, entry_place, entry_at}
use Rattle.model.specs.State.{State, held}
use Rattle.model.specs.Closure.{described}
use Rattle.model.specs.Questions.{read_entry, write_entry}
use Rattle.model.specs.declared.Config.{Config}
use Rattle.scene.specs.Digits.{bit}
use Rattle.scene.specs.Rules.{opens, starts, owned}
use Rattle.scene.specs.Scene.{Scene, In}
use Rattle.described.specs.declared.offers.Transfer.{Transfer}
use Rattle.described.specs.declared.offers.Transfer.TheVariants.{Read, Write}

-- the word x has the value that object o holds if it is an active descriptor, and no other
pub record HeldWord (kind : List ℕ) (b : State) (o x : ℕ) : Type 0 where
  pub right : (v : ℕ) → bit x v ≡ 1 → (starts kind b o ≡ true) × (held b o ≡ v)
  pub all : starts kind b o ≡ true → bit x (held b o) ≡ 1

-- the same, if object o is device c's hardcoded descriptor
pub record OwnedWord (kind class owner : List ℕ) (b : State) (c o x : ℕ) : Type 0 where
  pub right : (v : ℕ) → bit x v ≡ 1
      → (owned kind class owner b c o ≡ true) × (starts kind b o ≡ true) × (held b o ≡ v)
  pub all : owned kind class owner b c o ≡ true → starts kind b o ≡ true → bit x (held b o) ≡ 1

-- the same of all objects up to n
pub record OwnedWords (n : ℕ) (kind class owner : List ℕ) (b : State) (c x : ℕ) : Type 0 where
  pub right : (v : ℕ) → bit x v ≡ 1
      → (o : ℕ) × In n o × (owned kind class owner b c o ≡ true) × (starts kind b o ≡ true) × (held b o ≡ v)
  pub all : (o : ℕ) → In n o → owned kind class owner b c o ≡ true → starts kind b o ≡ true → bit x (held b o) ≡ 1

-- the word x has the value of the active descriptor that an entry reads
pub record OpenedWord (kind : List ℕ) (b : State) (e : Entry) (x : ℕ) : Type 0 where
  pub right : (w : ℕ) → bit x w ≡ 1
      → (opens kind e ≡ true) × (starts kind b e.object ≡ true) × (held b e.object ≡ w)
  pub all : opens kind e ≡ true → starts kind b e.object ≡ true → bit x (held b e.object) ≡ 1

-- the same of all entries of value v up to i
pub record OpenedBelow (kind count table : List ℕ) (b : State) (v i x : ℕ) : Type 0 where
  pub right : (w : ℕ) → bit x w ≡ 1
      → (j : ℕ) × In (get_or count v 0) j × (opens kind (entry_at table (entry_place v j)) ≡ true)
      × (starts kind b (entry_at table (entry_place v j)).object ≡ true)
      × (held b (entry_at table (entry_place v j)).object ≡ w)
  pub all : (j : ℕ) → 1 ≤ j → j ≤ i → opens kind (entry_at table (entry_place v j)) ≡ true
      → starts kind b (entry_at table (entry_place v j)).object ≡ true
      → bit x (held b (entry_at table (entry_place v j)).object) ≡ 1

abbrev pub OpenedWords : List ℕ → List ℕ → List ℕ → State → ℕ → ℕ → Type 0
OpenedWords kind count table b v x = OpenedBelow kind count table b v (get_or count v 0) x

-- what a search looks at with today's values: write entries do not count
abbrev pub today : Config → State → Scene
today config b = record { config = config; storing = false; state = b }

-- an entry for a read of object n; or for a write to it, for kind 1 with the stored value w
abbrev pub wanted : Config → ℕ → Transfer → Entry → Bool
wanted config n Read = read_entry n
wanted config n (Write w) = write_entry config n w

-- device c has such an entry with today's values
abbrev pub is_described : Config → State → ℕ → ℕ → Transfer → Bool
is_described config b c n t = described config b c (wanted config n t)
