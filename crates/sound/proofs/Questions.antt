-- Laws of the loops that put questions 5 and 6, and that these questions by their parts are the model's.
-- Assumes nothing.
use Prim.Native.Nat.{ℕ, zero, suc, ◌+◌, ◌-◌, ◌≤◌, ◌<◌}
use mathlib.Core.Path.{◌≡◌, refl, sym, ap, ◌∙◌}
use mathlib.Core.List.{List, [], ◌∷◌}
use mathlib.Core.Bool.{Bool, true, false, cond, ◌&&◌}
use native.Mathlib.Omega.{arith}
use native.Mathlib.Decide.{ℕ_discrete}
use native.Mathlib.Numerals.{add-one}
use lib.ListN.{
  length,
  get_or,
  set,
  replicate,
  length-set,
  length-replicate,
  get_or-replicate,
  get_or-eq_default,
}
use lib.Seq.{get_or-set_same, get_or-set_other}
use lib.Dec.{eqb, ltb}
use borrow.Author.Tests.{le-leb, eq-eqb, ne_eqb, ltb-true, ltb-false}
use Rattle.model.specs.Base.{all, every}
use Rattle.model.specs.Config.{
  most_objects,
  entry_bytes,
  entry_place,
  kind_of,
  class_of,
  owner_of,
  hardcoded_of,
  hardcoded_to,
  Entry,
  entry_at,
  entries_from,
  entries,
}
use Rattle.model.specs.ConfigFile.{how_many, paired, own_entry, restrained}
use Rattle.model.specs.declared.Config.{Config}
use Rattle.model.proofs.SameFile.{every-same, many-same}
use Rattle.model.proofs.Lists.{every_intro}
use Rattle.sound.specs.Sound.{
  every_to,
  tally,
  marks,
  device_owned,
  noted,
  one_in,
  all_from,
  value_passes,
  device_restrained,
}

and-false : (b : Bool) → b && false ≡ false
and-false true = refl
and-false false = refl

-- a loop that tests the numbers 1 to n, at number i
module _ (p : ℕ → Bool) where
  pub every_to_start : every_to 0 p ≡ true
  unfolding every_to
  every_to_start = refl

  pub every_to_go : (i : ℕ) → every_to i p ≡ true → p (i + 1) ≡ true → every_to (i + 1) p ≡ true
  unfolding every_to
  every_to_go i h e = rw add-one (rw (h, ← add-one i, e))

  every_false : (n i : ℕ) → i < n → p (suc i) ≡ false → every n p ≡ false
  every_false zero i h e = absurd (omega arith)
  every_false (suc n) i h e = last (ℕ_discrete i n) (λ (l : i < n). every_false n i l e)
    where
      last : Dec (i ≡ n) → (i < n → every n p ≡ false) → every n p && p (suc n) ≡ false
      last (yes q) k = rw (← q, e) (and-false (every i p))
      last (no q) k = rw (k (omega arith))

  every_no : (n o : ℕ) → 1 ≤ o → o ≤ n → p o ≡ false → every n p ≡ false
  every_no n zero l m e = absurd (omega arith)
  every_no n (suc i) l m e = every_false n i (omega arith) e

  pub every_to_stop : (n i : ℕ) → i < n → p (i + 1) ≡ false → false ≡ every_to n p
  unfolding every_to
  every_to_stop n i h e = sym (every_false n i h (rw (← add-one i) e))

  pub every_to_end : (n i : ℕ) → every_to i p ≡ true → i ≤ n → n ≤ i → true ≡ every_to n p
  every_to_end n i h l m =
      let q : i ≡ n = omega arith in
      sym (rw q at h)

  -- a loop that counts
  pub tally_go : (i : ℕ) → tally (i + 1) p ≡ tally i p + cond (p (i + 1)) 1 0
  unfolding tally
  tally_go i = rw add-one

  pub tally-few : (i : ℕ) → tally i p ≤ i
  unfolding tally
  tally-few zero = omega arith
  tally-few (suc i) = go (p (suc i)) (tally-few i)
    where
      go : (b : Bool) → how_many i p ≤ i → how_many i p + cond b 1 0 ≤ suc i
      go true h = omega arith
      go false h = omega arith

-- the table of how many hardcoded descriptors each device has, by one more object
module _ (owned : List ℕ) (k l w : ℕ) where
  pub note_other : (k ≡ 4 → ⊥) → owned ≡ noted owned k l w
  unfolding noted
  note_other h = rw (ne_eqb k 4 h)

  pub note_wrong : k ≡ 4 → (l ≡ 2 → ⊥) → owned ≡ noted owned k l w
  unfolding noted
  note_wrong h e = rw (eq-eqb k 4 h, ne_eqb l 2 e)

  set_past : (s : List ℕ) (i a : ℕ) → length s ≤ i → s ≡ set s i a
  set_past [] i a h = refl
  set_past (x ∷ s) zero a h = absurd (omega arith)
  set_past (x ∷ s) (suc i) a h = ap (λ (t : List ℕ). x ∷ t) (set_past s i a (omega arith))

  pub note_past : k ≡ 4 → l ≡ 2 → length owned ≤ w → owned ≡ noted owned k l w
  unfolding noted
  note_past h e p = rw (eq-eqb k 4 h, eq-eqb l 2 e) (set_past owned w (get_or owned w 0 + 1) p)

  pub note_one : k ≡ 4 → l ≡ 2 → set owned w (get_or owned w 0 + 1) ≡ noted owned k l w
  unfolding noted
  note_one h e = rw (eq-eqb k 4 h, eq-eqb l 2 e)

  note_length : length (noted owned k l w) ≡ length owned
  unfolding noted
  note_length = go (eqb k 4 && eqb l 2)
    where
      go : (b : Bool) → length (cond b (set owned w (get_or owned w 0 + 1)) owned) ≡ length owned
      go true = length-set owned w (get_or owned w 0 + 1)
      go false = refl

  pub note_kept : {n : ℕ} {next : List ℕ} → length owned ≡ n → next ≡ noted owned k l w → length next ≡ n
  note_kept h e = rw e (note_length ∙ h)

  note_get : (c : ℕ) → c < length owned
      → get_or (noted owned k l w) c 0 ≡ get_or owned c 0 + cond (eqb k 4 && eqb l 2 && eqb w c) 1 0
  unfolding noted
  note_get c h = go (eqb k 4 && eqb l 2) (ℕ_discrete w c)
    where
      go : (b : Bool) → Dec (w ≡ c)
          → get_or (cond b (set owned w (get_or owned w 0 + 1)) owned) c 0 ≡ get_or owned c 0 + cond (b && eqb w c) 1 0
      go false d = omega arith
      go true (yes e) = rw (e, eq-eqb c c refl) (get_or-set_same owned c (get_or owned c 0 + 1) 0 h)
      go true (no e) =
          rw (ne_eqb w c e, get_or-set_other owned w c (get_or owned w 0 + 1) 0 (λ z. e (sym z))) (omega arith)

pub ruleset note_laws = (note_other, note_wrong, note_past, note_one)

-- the objects before object o: each has passed, and the table counts them
module _ (config : Config) where
  abbrev pub EachOwned : ℕ → Type 0
  EachOwned o = (n : ℕ) → 1 ≤ n → n < o → device_owned config n ≡ true

  pub owned_more : (o : ℕ) → EachOwned o → device_owned config o ≡ true → EachOwned (o + 1)
  owned_more o h e n low high = go (ℕ_discrete n o) (h n low)
    where
      go : Dec (n ≡ o) → (n < o → device_owned config n ≡ true) → device_owned config n ≡ true
      go (yes q) k = rw (q, e)
      go (no q) k = k (omega arith)

  abbrev pub Counted : ℕ → List ℕ → Type 0
  Counted o owned = (c : ℕ) → c < length owned → get_or owned c 0 ≡ tally (o - 1) (marks config c)

  pub counted_start : (n : ℕ) → Counted 1 (replicate n 0)
  unfolding tally
  counted_start n c h = get_or-replicate n c 0 0 (simp length-replicate at h)

  pub counted_room : (o w n : ℕ) (owned : List ℕ) → o ≤ n → n ≤ most_objects → Counted o owned
      → get_or owned w 0 ≤ most_objects
  counted_room o w n owned l m h = go (ltb w (length owned)) refl
    where
      go : (b : Bool) → ltb w (length owned) ≡ b → get_or owned w 0 ≤ most_objects
      go true e = omega (arith, h w (ltb-true w (length owned) e), tally-few (marks config w) (o - 1))
      go false e = omega (arith, get_or-eq_default owned 0 (ltb-false w (length owned) e))

  pub counted_go : (o : ℕ) (owned next : List ℕ) → 1 ≤ o → Counted o owned
      → next ≡ noted owned (kind_of config o) (class_of config o) (owner_of config o) → Counted (o + 1) next
  unfolding marks
  counted_go o owned next first h e c l =
      let k = kind_of config o in
      let m = class_of config o in
      let w = owner_of config o in
      let q : c < length owned = omega (arith, note_length owned k m w, ap (λ (t : List ℕ). length t) e) in
      let z : o - 1 + 1 ≡ o = omega arith in
      let y : o + 1 - 1 ≡ o - 1 + 1 = omega arith in
      rw (e, note_get owned k m w c q, y, tally_go (marks config c) (o - 1), h c q, z)

-- a loop over entries, at entry i
module _ (p : Entry → Bool) (table : List ℕ) (k i at : ℕ) where
  pub from_go : {b : Bool} → i < k → b ≡ p (entry_at table at) → b ≡ true
      → all_from p table at (k - i) ≡ all_from p table (at + entry_bytes) (k - (i + 1))
  unfolding all_from entries_from
  from_go h e z =
      let q : k - i ≡ suc (k - (i + 1)) = omega arith in
      rw (q, ← e, z)

  pub from_stop : {b : Bool} → i < k → b ≡ p (entry_at table at) → b ≡ false → all_from p table at (k - i) ≡ false
  unfolding all_from entries_from
  from_stop h e z =
      let q : k - i ≡ suc (k - (i + 1)) = omega arith in
      rw (q, ← e, z)

  pub from_start : all_from p table at (k - 0) ≡ all_from p table at k
  from_start =
      let q : k - 0 ≡ k = omega arith in
      rw q

  pub from_end : k ≤ i → all_from p table at (k - i) ≡ true
  unfolding all_from entries_from
  from_end h =
      let q : k - i ≡ 0 = omega arith in
      rw q

-- question 5 by its parts is the model's
and-true : (b : Bool) → b && true ≡ b
and-true true = refl
and-true false = refl

module _ (config : Config) where
  marks-same : (c n : ℕ) → 1 ≤ n → n ≤ config.counts.objects → marks config c n ≡ hardcoded_to config c n
  unfolding marks
  marks-same c n low high =
      rw (le-leb 1 n low, le-leb n config.counts.objects high)
      (go (eqb (kind_of config n) 4) (eqb (class_of config n) 2) (eqb (owner_of config n) c))
    where
      go : (a b d : Bool) → a && b && d ≡ a && (b && d)
      go true b d = refl
      go false b d = refl

  one_same : (n o c : ℕ) (owned : List ℕ) → o ≡ n + 1 → n ≡ config.counts.objects → Counted config o owned
      → c < length owned → one_in owned c ≡ eqb (how_many n (hardcoded_to config c)) 1
  unfolding one_in tally
  one_same n o c owned e z h l =
      let d : o - 1 ≡ n = omega arith in
      let k = rw d at (h c l) in
      ap (λ (n : ℕ). eqb n 1) (k ∙ many-same n _ _ (λ i low high. marks-same c i low (omega arith)))

  -- an object of kind 4 that is no device's
  pub paired_no : (o : ℕ) → 1 ≤ o → o ≤ config.counts.objects → device_owned config o ≡ false → false ≡ paired config
  unfolding paired device_owned
  paired_no o low high e =
      rw (every_no (device_owned config) config.counts.objects o low high e) (sym (and-false _))

  -- every object has passed, and is counted
  pub paired-rest : (o : ℕ) (owned : List ℕ) (r : Bool) → o ≡ config.counts.objects + 1 → EachOwned config o
      → Counted config o owned → config.counts.devices < length owned
      → r ≡ every_to config.counts.devices (one_in owned) → r ≡ paired config
  unfolding paired every_to device_owned
  paired-rest o owned r z d h v e =
      rw (e, every_intro config.counts.objects (device_owned config) (λ n low high. d n low (omega arith)), and-true)
      (every-same config.counts.devices _ _ (λ c low high. one_same _ o c owned z refl h (omega arith)))

-- the entries of a value: value 0 has none
module _ (p : Entry → Bool) (count table : List ℕ) where
  pub passes_none : (w : ℕ) → w ≡ 0 → true ≡ value_passes p count table w
  unfolding value_passes
  passes_none w h = rw h

  pub passes_some : (w k at : ℕ) (r : Bool) → (w ≡ 0 → ⊥) → k ≡ get_or count w 0 → at ≡ entry_place w 1
      → r ≡ all_from p table at k → r ≡ value_passes p count table w
  unfolding value_passes
  passes_some zero k at r h e q s = absurd (h refl)
  passes_some (suc v) k at r h e q s = rw (s, e, q)

-- they are the model's entries of the value
pub value-passes : (config : Config) (p : Entry → Bool) (w : ℕ)
    → value_passes p config.values.count config.values.entries w ≡ all p (entries config w)
unfolding value_passes all_from entries
value-passes config p zero = refl
value-passes config p (suc v) = refl

-- question 6 by devices is the model's
pub restrained-devices : (config : Config) → every config.counts.devices (device_restrained config) ≡ restrained config
unfolding restrained device_restrained
restrained-devices config =
    every-same config.counts.devices _ _
    (λ c low high. value-passes config (own_entry config c) (hardcoded_of config c))
