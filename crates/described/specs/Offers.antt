-- Question 18: what the entries that a device reads with today's values offer, as digits of a word for each object.
-- t: a word for each object; digit w: an entry writes it, with the stored value w; digit 63: an entry reads it.
use Rattle.std.specs.Prelude.{ℕ, ◌≤◌, ◌≡◌, ◌⊎◌, Bool, true, get_or, length}
use mathlib.Core.List.{List, Memᴰ}
use Rattle.model.specs.Config.{most_values, Entry, reads, writes, entries, entry_place, entry_at}
use Rattle.model.specs.Closure.{Reads}
use Rattle.scene.specs.Scene.{Scene, In, object_slots}
use Rattle.scene.specs.Digits.{Has, Wider}

-- the digit of a read, above those of all values
abbrev pub read_digit : ℕ
read_digit = 63

-- an entry offers what digit k stands for: a read, or a write with its stored value
abbrev pub Offer : Entry → ℕ → Type 0
Offer e k = ((reads e ≡ true) × (k ≡ read_digit)) ⊎ ((writes e ≡ true) × (k ≡ e.value))

-- digit k of the word of object o was set, if b says so: t became t'
pub record Put (b : Bool) (o k : ℕ) (t t' : List ℕ) : Type 0 where
  pub long : length t' ≡ length t
  pub wider : Wider t t'
  pub all : b ≡ true → Has t' o k
  pub only : (j n : ℕ) → Has t' j n → Has t j n ⊎ ((b ≡ true) × (o ≡ j) × (n ≡ k))

-- an entry was put down: t became t'
pub record Noted (e : Entry) (t t' : List ℕ) : Type 0 where
  pub long : length t' ≡ length t
  pub wider : Wider t t'
  pub all : (k : ℕ) → Offer e k → Has t' e.object k
  pub only : (o k : ℕ) → Has t' o k → Has t o k ⊎ ((e.object ≡ o) × Offer e k)

-- the entries of value v up to i were put down
pub record NotedBelow (count table : List ℕ) (v i : ℕ) (t t' : List ℕ) : Type 0 where
  pub long : length t' ≡ length t
  pub wider : Wider t t'
  pub all : (j k : ℕ) → 1 ≤ j → j ≤ i → Offer (entry_at table (entry_place v j)) k
      → Has t' (entry_at table (entry_place v j)).object k
  pub only : (o k : ℕ) → Has t' o k
      → Has t o k ⊎ ((j : ℕ) × In (get_or count v 0) j × ((entry_at table (entry_place v j)).object ≡ o)
      × Offer (entry_at table (entry_place v j)) k)

abbrev pub NotedAll : List ℕ → List ℕ → ℕ → List ℕ → List ℕ → Type 0
NotedAll count table v t t' = NotedBelow count table v (get_or count v 0) t t'

-- t has what the entries in the pairs that device c reads offer, and nothing else
pub record Offered (m : Scene) (c : ℕ) (t : List ℕ) : Type 0 where
  pub long : length t ≡ object_slots
  pub right : (n k : ℕ) → Has t n k
      → (o v : ℕ) × (e : Entry) × Reads m.config m.storing m.state c o v × Memᴰ e (entries m.config v)
      × (e.object ≡ n) × Offer e k
  pub all : (o v : ℕ) (e : Entry) → Reads m.config m.storing m.state c o v
      → Memᴰ e (entries m.config v)
      → (e.value ≤ most_values) × ((k : ℕ) → Offer e k → Has t e.object k)
