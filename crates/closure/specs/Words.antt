-- Sets of devices and values as digits of words, and how they grow.
-- k: a word for each descriptor; digit c - 1: device c reads it; digit v + 16: its pair with value v is collected.
-- t: a word for each value; digit c - 1: device c reads a pair with it.
-- a: a word for each value; digit c - 1: what its entries give to device c is in k.
-- A word of values has those with something to do: digit v: t may have devices for v that a lacks.
use Rattle.std.specs.Prelude.{ℕ, zero, ◌+◌, ◌-◌, ◌^◌, ◌≤◌, ◌<◌, ◌≡◌, ◌⊎◌, Bool, true, List, [], ◌∷◌, get_or}
use Rattle.model.specs.Config.{most_devices, hardcoded_to, Entry}
use Rattle.model.specs.State.{State, held}
use Rattle.model.specs.Closure.{active, live, Collected, Reads}
use Rattle.model.specs.declared.Config.{Config}
use Rattle.scene.specs.Digits.{bit, Has, Wider}
use Rattle.scene.specs.Rules.{opens, stores, starts, owned}
use Rattle.scene.specs.Scene.{Scene, entry_of, count_of, In, Reading, Owners}
use Rattle.closure.specs.declared.spread.Readers.{Readers}
use Rattle.closure.specs.declared.spread.Found.{Found}

-- device c reads descriptor o
abbrev pub ReaderIn : List ℕ → ℕ → ℕ → Type 0
ReaderIn k c o = (n : ℕ) × (c ≡ n + 1) × (n < most_devices) × Has k o n

-- the pair of descriptor o with value v is collected
abbrev pub PairIn : List ℕ → ℕ → ℕ → Type 0
PairIn k o v = Has k o (v + most_devices)

-- a word of devices
abbrev pub Low : ℕ → Type 0
Low r = (n : ℕ) → bit r n ≡ 1 → n < most_devices

-- the devices of the word r are in the word of value v
abbrev pub TouchedIn : List ℕ → ℕ → ℕ → Type 0
TouchedIn t r v = (n : ℕ) → bit r n ≡ 1 → Has t v n

-- each device of the word x is in the word of each value of x
abbrev pub Covers : ℕ → List ℕ → Type 0
Covers x t = (v n : ℕ) → n < most_devices → bit x (v + most_devices) ≡ 1 → bit x n ≡ 1 → Has t v n

abbrev pub Covered : List ℕ → List ℕ → Type 0
Covered k t = (o : ℕ) → Covers (get_or k o 0) t

-- device c reads a descriptor whose pair with value v is collected
pub record Paired (k : List ℕ) (c v : ℕ) : Type 0 where
  pub object : ℕ
  pub reading : ReaderIn k c object
  pub paired : PairIn k object v

abbrev pub By : List ℕ → List ℕ → Type 0
By k t = (v n : ℕ) → Has t v n → Paired k (n + 1) v

-- how far words are from full
unfoldable pub slack : List ℕ → ℕ
slack [] = zero
slack (x ∷ xs) = (2 ^ 64 - x) + slack xs

-- the devices of the word r were given to the values of Q
pub record Gave (Q : ℕ → Type 0) (r : ℕ) (x y : Readers) : Type 0 where
  pub wider : Wider x.of y.of
  pub all : (v : ℕ) → Q v → TouchedIn y.of r v
  pub only : (v n : ℕ) → Has y.of v n → Has x.of v n ⊎ (Q v × (bit r n ≡ 1))
  pub kept : (v : ℕ) → bit x.todo v ≡ 1 → bit y.todo v ≡ 1
  pub marked : (v n : ℕ) → Has y.of v n → Has x.of v n ⊎ (bit y.todo v ≡ 1)

-- what is found grew
pub record Grew (x y : Found) : Type 0 where
  pub wider : Wider x.known y.known
  pub by : By x.known x.readers.of → By y.known y.readers.of
  pub covers : Covered x.known x.readers.of → Covered y.known y.readers.of
  pub kept : (v : ℕ) → bit x.readers.todo v ≡ 1 → bit y.readers.todo v ≡ 1
  pub marked : (v n : ℕ) → Has y.readers.of v n → Has x.readers.of v n ⊎ (bit y.readers.todo v ≡ 1)

-- the word of o has the digits of g too, if b says so
pub record Added (b : Bool) (o g : ℕ) (k k' : List ℕ) : Type 0 where
  pub only : (j n : ℕ) → Has k' j n → Has k j n ⊎ ((b ≡ true) × (j ≡ o) × (bit g n ≡ 1))
  pub all : b ≡ true → (n : ℕ) → bit g n ≡ 1 → Has k' o n

-- an entry, read by the devices of the word r, was followed: its object's word has what it gives
pub record Followed (kind : List ℕ) (e : Entry) (r : ℕ) (k k' : List ℕ) : Type 0 where
  pub only : (j n : ℕ) → Has k' j n → Has k j n ⊎ ((j ≡ e.object)
      × (((opens kind e ≡ true) × (bit r n ≡ 1)) ⊎ ((stores kind true e ≡ true) × (n ≡ e.value + most_devices))))
  pub opened : opens kind e ≡ true → (n : ℕ) → bit r n ≡ 1 → Has k' e.object n
  pub stored : stores kind true e ≡ true → PairIn k' e.object e.value

-- device c is active, and o is its hardcoded descriptor
abbrev pub Owned : Config → State → ℕ → ℕ → Type 0
Owned config b c o = owned config.objects.kind config.objects.class config.objects.owner b c o ≡ true

-- the word of the active device whose hardcoded descriptor o is
pub record OwnWord (config : Config) (b : State) (o x : ℕ) : Type 0 where
  pub low : (n : ℕ) → bit x n ≡ 1 → n < most_devices
  pub right : (n : ℕ) → bit x n ≡ 1 → Owned config b (n + 1) o
  pub all : (n : ℕ) → Owned config b (n + 1) o → bit x n ≡ 1

-- the word of the value that object o holds if it is an active descriptor
pub record ValueWord (config : Config) (b : State) (o x : ℕ) : Type 0 where
  pub right : (n : ℕ) → bit x n ≡ 1
      → (starts config.objects.kind b o ≡ true) × (n ≡ held b o + most_devices) × (held b o ≤ config.counts.values)
  pub all : starts config.objects.kind b o ≡ true → bit x (held b o + most_devices) ≡ 1

module _ (m : Scene) where
  -- a digit of a device says that it reads every collected pair of the descriptor
  pub record RightReader (c o : ℕ) : Type 0 where
    pub reads : (v : ℕ) → Collected m.config m.storing m.state o v
        → Reads m.config m.storing m.state c o v
    pub device : In m.config.counts.devices c
    pub object : In m.config.counts.objects o

  -- a digit of a value says that the pair is collected
  pub record RightPair (o v : ℕ) : Type 0 where
    pub collected : Collected m.config m.storing m.state o v
    pub object : In m.config.counts.objects o
    pub value : v ≤ m.config.counts.values

  -- every digit of the word x of descriptor o is right
  pub record RightWord (o x : ℕ) : Type 0 where
    pub readers : (n : ℕ) → n < most_devices → bit x n ≡ 1 → RightReader (n + 1) o
    pub values : (v : ℕ) → bit x (v + most_devices) ≡ 1 → RightPair o v

  abbrev pub Sound : List ℕ → Type 0
  Sound k = (o : ℕ) → RightWord o (get_or k o 0)

  -- each device of r reads a pair with value v
  abbrev pub Each : ℕ → ℕ → Type 0
  Each r v = (n : ℕ) → bit r n ≡ 1 → (n < most_devices) × In m.config.counts.devices (n + 1) × Reading m (n + 1) v

  -- what entry j of value v, in a pair that device c reads, gives is in k
  pub record EntryIn (k : List ℕ) (c v j : ℕ) : Type 0 where
    pub opened : opens m.config.objects.kind (entry_of m v j) ≡ true → ReaderIn k c (entry_of m v j).object
    pub stored : stores m.config.objects.kind m.storing (entry_of m v j) ≡ true
        → PairIn k (entry_of m v j).object (entry_of m v j).value

  -- what the entries of value v below i give to the devices of r is in k
  abbrev pub EntriesIn : List ℕ → ℕ → ℕ → ℕ → Type 0
  EntriesIn k r v i =
      (j : ℕ) → 1 ≤ j → j < i → (n : ℕ) → n < most_devices → bit r n ≡ 1 → EntryIn k (n + 1) v j

  abbrev pub Applied : List ℕ → List ℕ → Type 0
  Applied k a = (v n j : ℕ) → n < most_devices → In (count_of m v) j → Has a v n → EntryIn k (n + 1) v j

  pub record BegunAt (k : List ℕ) (o : ℕ) : Type 0 where
    pub started : live m.config m.state o ≡ true → Has k o (held m.state o + most_devices)
    pub owned : (n : ℕ) → n < most_devices → active m.state (n + 1) ≡ true → hardcoded_to m.config (n + 1) o ≡ true
        → Has k o n

  -- k has what holds before any step
  pub record Begun (k : List ℕ) : Type 0 where
    pub sound : Sound k
    pub given : (o : ℕ) → In m.config.counts.objects o → BegunAt k o
    pub owners : Owners m

  -- before any step: what is read is still to be followed
  pub record Seeded (x : Found) : Type 0 where
    pub begun : Begun x.known
    pub by : By x.known x.readers.of
    pub covers : Covered x.known x.readers.of
    pub marked : (v n : ℕ) → Has x.readers.of v n → bit x.readers.todo v ≡ 1

  -- no rule adds to k
  pub record Closed (k : List ℕ) : Type 0 where
    pub started : (o : ℕ) → live m.config m.state o ≡ true → PairIn k o (held m.state o)
    pub owned : (c o : ℕ) → active m.state c ≡ true → hardcoded_to m.config c o ≡ true → ReaderIn k c o
    pub entries : (c o v j : ℕ) → ReaderIn k c o → PairIn k o v → In (count_of m v) j → EntryIn k c v j

  -- the word of o before any step
  pub record FirstWord (o x : ℕ) : Type 0 where
    pub right : RightWord o x
    pub started : live m.config m.state o ≡ true → bit x (held m.state o + most_devices) ≡ 1
    pub owned : (n : ℕ) → n < most_devices → active m.state (n + 1) ≡ true → hardcoded_to m.config (n + 1) o ≡ true
        → bit x n ≡ 1
