-- What a search over the words of the closure finds.
use Rattle.std.specs.Prelude.{ℕ, ◌+◌, ◌-◌, ◌≤◌, ◌<◌, ◌≡◌, ◌⊎◌, Bool, true, false, not, ◌&&◌, get_or, eqb}
use Rattle.std.specs.Prelude.{Option, Some, None}
use mathlib.Core.List.{List, [], ◌∷◌, Memᴰ}
use Rattle.model.specs.Config.{Entry, entry_place, entries}
use Rattle.model.specs.State.{State, device_in}
use Rattle.model.specs.Closure.{Reads, crosses}
use Rattle.model.specs.declared.Config.{Config}
use Rattle.scene.specs.Digits.{bit, Has}
use Rattle.scene.specs.Scene.{Scene, entry_of, count_of, In}
use Rattle.closure.specs.Words.{ReaderIn, PairIn, Covered, Paired, By, Sound, Applied, Begun, Closed}
use Rattle.closure.specs.declared.search.Finding.{Finding}
use Rattle.closure.specs.declared.spread.Found.{Found}

-- which devices may name an object

-- each device below `last` is in the word of its partition
pub record Parts (b : State) (last : ℕ) (t : List ℕ) : Type 0 where
  pub right : (p n : ℕ) → Has t p n → device_in b (n + 1) ≡ p
  pub all : (n : ℕ) → n + 1 < last → Has t (device_in b (n + 1)) n

-- the word x has those of the devices for which naming object o is not bad
pub record FineWord (bad : ℕ → ℕ → Bool) (devices o x : ℕ) : Type 0 where
  pub right : (n : ℕ) → bit x n ≡ 1 → bad (n + 1) o ≡ true → ⊥
  pub all : (n : ℕ) → In devices (n + 1) → (bit x n ≡ 1 → ⊥) → bad (n + 1) o ≡ true

abbrev pub Fines : (ℕ → ℕ → Bool) → Config → List ℕ → Type 0
Fines bad config f = (o : ℕ) → In config.counts.objects o → FineWord bad config.counts.devices o (get_or f o 0)

module _ (config : Config) (f : List ℕ) where
  -- device i + 1 may name the object of entry j of value v
  abbrev pub MayName : ℕ → ℕ → ℕ → Type 0
  MayName i v j = Has f (get_or config.values.entries (entry_place v j) 0) i

  -- the entries of value v below i name only objects that the devices of the word w may name
  abbrev pub NoStrange : ℕ → ℕ → ℕ → Type 0
  NoStrange w v i = (j n : ℕ) → 1 ≤ j → j < i → bit w n ≡ 1 → MayName n v j

  -- each device of s is in the word r, and may not name the object of some entry of value v
  abbrev pub StrangeIn : ℕ → ℕ → ℕ → Type 0
  StrangeIn r v s =
      (n : ℕ) → bit s n ≡ 1
      → (bit r n ≡ 1) × (j : ℕ) × In (get_or config.values.count v 0) j × (MayName n v j → ⊥)

  module _ (k : List ℕ) where
    -- device i + 1 may name the objects of the pair (o, v)
    abbrev pub PairFine : ℕ → ℕ → ℕ → Type 0
    PairFine i o v = Has k o i → PairIn k o v → (j : ℕ) → In (get_or config.values.count v 0) j → MayName i v j

    -- device c may not name the object of entry j of the pair (o, v)
    pub record IsStrange (c o v j : ℕ) : Type 0 where
      pub reading : ReaderIn k c o
      pub paired : PairIn k o v
      pub there : In (get_or config.values.count v 0) j
      pub strange : MayName (c - 1) v j → ⊥

    -- the entry that is named is such, or there is none of value v for the devices of the word d
    abbrev pub Finds : ℕ → ℕ → Option Finding → Type 0
    Finds d v (Some e) = IsStrange e.device e.descriptor e.value e.entry
    Finds d v None = (i o : ℕ) → i < config.counts.devices → bit d i ≡ 1 → In config.counts.objects o → PairFine i o v

-- while the words grow
module _ (m : Scene) (f : List ℕ) where
  pub record Going (x : Found) (a : List ℕ) : Type 0 where
    pub begun : Begun m x.known
    pub by : By x.known x.readers.of
    pub covers : Covered x.known x.readers.of
    pub applied : Applied m x.known a
    -- the devices in the words of a may name what they were given
    pub spared : (v : ℕ) → NoStrange m.config f (get_or a v 0) v (count_of m v + 1)
    -- what is not in a yet is still to be done
    pub left : (v n : ℕ) → v ≤ m.config.counts.values → Has x.readers.of v n → (bit x.readers.todo v ≡ 1) ⊎ Has a v n

  -- no rule adds to k, and every device may name what it has an entry for
  pub record Ended (k : List ℕ) : Type 0 where
    pub sound : Sound m k
    pub closed : Closed m k
    pub fine : (c o v j : ℕ) → ReaderIn k c o → PairIn k o v → In (count_of m v) j
        → Has f (entry_of m v j).object (c - 1)

  -- device n + 1 reads a pair with value v, which has an entry for an object that it may not name
  pub record Suspected (k : List ℕ) (n v : ℕ) : Type 0 where
    pub sound : Sound m k
    pub paired : Paired k (n + 1) v
    pub entry : ℕ
    pub there : In (count_of m v) entry
    pub strange : Has f (entry_of m v entry).object n → ⊥

-- entry j of value v, in a pair of descriptor o that device c reads, is bad
pub record Hit (m : Scene) (bad : ℕ → Entry → Bool) (c o v j : ℕ) : Type 0 where
  pub read : Reads m.config m.storing m.state c o v
  pub there : In (count_of m v) j
  pub listed : Memᴰ (entry_of m v j) (entries m.config v)
  pub is_bad : bad c (entry_of m v j) ≡ true

-- the entry that is named is one, or no entry in a pair that a device reads is bad
abbrev pub Answers : Scene → (ℕ → Entry → Bool) → Option Finding → Type 0
Answers m bad (Some e) = Hit m bad e.device e.descriptor e.value e.entry
Answers m bad None =
    (c o v : ℕ) (e : Entry) → Reads m.config m.storing m.state c o v → Memᴰ e (entries m.config v)
    → bad c e ≡ true → ⊥

-- document 01, questions 19 and 20, and document 02, question 21, for each case of a search's answer to question q: the
-- number, q where it is answered no and else 0; and the values, the device, the descriptor, the value and the entry's
-- number in the value
abbrev pub finding_means : ℕ → Option Finding → ℕ × List ℕ
finding_means q (Some e) = (q, e.device ∷ e.descriptor ∷ e.value ∷ e.entry ∷ [])
finding_means q None = (0, [])

-- where the number is not 0, the values are those of an entry in a pair that a device reads, and it is bad
abbrev pub Tells : Scene → (ℕ → Entry → Bool) → ℕ × List ℕ → Type 0
Tells m bad f =
    (f.0 ≡ 0 → ⊥) → Hit m bad (get_or f.1 0 0) (get_or f.1 1 0) (get_or f.1 2 0) (get_or f.1 3 0)

-- a search answered no entry
abbrev pub is_nothing : Option Finding → Bool
is_nothing (Some e) = false
is_nothing None = true

-- the scene in which write entries count (document 01: reach)
abbrev pub closure_of : Config → State → Scene
closure_of config b = record { config = config; storing = true; state = b }

-- questions 19 and 21: an entry that is answered is in the closure, and crosses
abbrev pub IsCrossing : Config → State → ℕ × List ℕ → Type 0
IsCrossing config b m = Tells (closure_of config b) (crosses config b) m

-- question 20: an entry that is answered is in the closure, of another device, and names an object concerned
abbrev pub IsNaming : Config → State → (ℕ → Bool) → ℕ → ℕ × List ℕ → Type 0
IsNaming config b concerned but m =
    Tells (closure_of config b) (λ d e. not (eqb d but) && concerned e.object) m
