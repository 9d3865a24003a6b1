-- What question 11 says of the numbers of a record: how long it is at most, and that its numbers are those of before.
use Prim.Native.Nat.{ℕ, zero, suc, ◌+◌, ◌*◌, ◌≤◌, ◌<◌}
use mathlib.Core.Path.{◌≡◌, refl, sym, ap, ◌∙◌, subst}
use mathlib.Core.Logic.{◌⊎◌, inl, inr}
use mathlib.Core.List.{List, [], ◌∷◌, ◌++◌}
use mathlib.Core.Bool.{Bool, true, false, not, cond, false≢true, ◌||◌}
use native.Mathlib.Nat.{suc-mul}
use native.Mathlib.Omega.{arith}
use lib.Dec.{ltb, leb, eqb}
use borrow.Author.Tests.{leb-true, le-leb, eqb-true, ltb-true, ltb-false}
use Rattle.model.specs.Number.{most_before, bytes_to}
use Rattle.model.specs.Config.{most_objects, from1to}
use Rattle.model.specs.State.{most_partition}
use Rattle.model.specs.Operation.{most_code, most_items, object_at, second_at}
use Rattle.model.specs.Operation.{form_at, family_of, actor_of, read_operation}
use Rattle.model.specs.Questions.{actor_exists, names_partition, item_exists, is_object, q11}
use Rattle.model.specs.declared.Family.{Family}
use Rattle.model.specs.declared.Family.TheVariants.{Write, Copy, Create, Destroy, Activate, Deactivate, Lock, Unlock}
use Rattle.model.specs.declared.Actor.{Actor}
use Rattle.model.specs.declared.Actor.TheVariants.{Driver, Device, External}
use Rattle.model.specs.declared.Config.{Config}
use Rattle.model.specs.declared.Operation.{Operation}
use Rattle.model.proofs.Lists.{and_l, and_r, or_true, both_true, from1to-high, every_at}
use Rattle.model.proofs.OperationRange.{InRange, read-ranged}
use Rattle.model.proofs.Accepted.{Few}
use Rattle.model.proofs.Formed.{items_exist}
use Rattle.model.proofs.Moves.{actor_exists_lem}
use Rattle.continuity.specs.Records.{
  item_length,
  pair_length,
  listed_length,
  items_length,
  arguments_length,
  record_length,
  most_record,
  asks11,
  item_numbers,
  pair_numbers,
  listed_numbers,
  items_numbers,
  arguments_numbers,
  numbers_in,
  within,
}
use Rattle.continuity.proofs.Widths.{width_1, width_2}

-- bytes of numbers
bytes_3 : (v : ℕ) → bytes_to v ≤ 3
bytes_3 v = go (ltb v 128) (ltb v 16384)
  where
    go : (a b : Bool) → cond a 1 (cond b 2 3) ≤ 3
    go true b = omega arith
    go false true = omega arith
    go false false = omega arith

bytes_2 : (v : ℕ) → v < 16384 → bytes_to v ≤ 2
bytes_2 v h = go (ltb v 128) refl
  where
    go : (a : Bool) → ltb v 128 ≡ a → bytes_to v ≤ 2
    go true e = let z = width_1 v (ltb-true v 128 e) in omega (arith, z)
    go false e = let z = width_2 v (ltb-false v 128 e) h in omega (arith, z)

-- families that name a driver or device have an actor
abbrev fitting : Family → Actor → Bool
fitting Write Driver = true
fitting Write Device = true
fitting Write External = false
fitting Copy Driver = true
fitting Copy Device = true
fitting Copy External = false
fitting Create a = true
fitting Destroy a = true
fitting Activate a = true
fitting Deactivate a = true
fitting Lock Driver = true
fitting Lock Device = true
fitting Lock External = false
fitting Unlock Driver = true
fitting Unlock Device = true
fitting Unlock External = false

fitting-code : (c : ℕ) → 1 ≤ c → c ≤ most_code → fitting (family_of c) (actor_of c) ≡ true
fitting-code = every_at most_code (λ c. fitting (family_of c) (actor_of c)) refl

append_within : (limit : ℕ) (xs ys : List ℕ) → within limit xs ≡ true → within limit ys ≡ true
    → within limit (xs ++ ys) ≡ true
append_within limit [] ys h k = k
append_within limit (x ∷ xs) ys h k =
    both_true (and_l (leb x limit) _ h) (append_within limit xs ys (and_r (leb x limit) _ h) k)

one-within : (limit v : ℕ) → v ≤ limit → within limit (v ∷ []) ≡ true
one-within limit v h = both_true (le-leb v limit h) refl

more_within : (limit v : ℕ) (vs : List ℕ) → v ≤ limit → within limit vs ≡ true → within limit (v ∷ vs) ≡ true
more_within limit v vs h k = both_true (le-leb v limit h) k

module _ (config : Config) (few : Few config) (op : Operation) (high : op.count ≤ most_items) where
  -- the driver or device, and the partition
  driver-low : actor_exists config Driver op.subject ≡ true → op.subject ≤ 16
  driver-low h = omega (arith, from1to-high op.subject config.counts.drivers h, few.drivers)

  device-low : actor_exists config Device op.subject ≡ true → op.subject ≤ 16
  device-low h = omega (arith, from1to-high op.subject config.counts.devices h, few.devices)

  partition-low : (f : Family) (a : Actor) → q11 config op f a ≡ true → names_partition f a ≡ true → op.partition ≤ 63
  unfolding q11
  partition-low f a h n =
      let t : not (names_partition f a) || from1to op.partition most_partition ≡ true = search (and_l, and_r) in
      from1to-high op.partition most_partition (go (names_partition f a) n t)
    where
      go : (t : Bool) → t ≡ true → not t || from1to op.partition most_partition ≡ true
          → from1to op.partition most_partition ≡ true
      go true e h = h
      go false e h = absurd (false≢true e)

  object-low : (n : ℕ) → is_object config n ≡ true → n ≤ most_objects
  object-low n h = omega (arith, from1to-high n config.counts.objects h, few.objects)

  -- items
  items_most : (size : ℕ → ℕ → ℕ → ℕ) (k : ℕ)
      → ((i : ℕ) → i < op.count → size (object_at op i) (second_at op i) (form_at op i) ≤ k)
      → (n i : ℕ) → i + n ≤ op.count → items_length size op n i ≤ n * k
  items_most size k each zero i l = omega arith
  items_most size k each (suc n) i l =
      let x = each i (omega arith) in
      let r = items_most size k each n (suc i) (omega arith) in
      subst (λ (z : ℕ). items_length size op (suc n) i ≤ z) (sym (suc-mul n k)) (omega (arith, x, r))

  items_within : (limit : ℕ) (numbers : ℕ → ℕ → ℕ → List ℕ)
      → ((i : ℕ) → i < op.count → within limit (numbers (object_at op i) (second_at op i) (form_at op i)) ≡ true)
      → (n i : ℕ) → i + n ≤ op.count → within limit (items_numbers numbers op n i) ≡ true
  items_within limit numbers each zero i l = refl
  items_within limit numbers each (suc n) i l =
      append_within limit (numbers (object_at op i) (second_at op i) (form_at op i)) _ (each i (omega arith))
      (items_within limit numbers each n (suc i) (omega arith))

  -- the items of each family that has any
  write-item : (a : Actor) → q11 config op Write a ≡ true → (i : ℕ) → i < op.count
      → (item_length (object_at op i) (second_at op i) (form_at op i) ≤ 19)
      × (within most_before (item_numbers (object_at op i) (second_at op i) (form_at op i)) ≡ true)
  write-item a h i l = each (items_exist config op Write a h i l)
    where
      payload : (t : Bool) → eqb (form_at op i) 0 ≡ t
          → eqb (form_at op i) 1 || leb (second_at op i) config.counts.values ≡ true
          → (cond t (bytes_to (second_at op i)) 16 ≤ 16) × (within most_before (cond t (second_at op i ∷ []) []) ≡ true)
      payload true e q = (
        omega (arith, bytes_3 (second_at op i)),
        value (or_true q),
      )
        where
          value : (eqb (form_at op i) 1 ≡ true) ⊎ (leb (second_at op i) config.counts.values ≡ true)
              → within most_before (second_at op i ∷ []) ≡ true
          value (inl f) =
              absurd (let x = eqb-true (form_at op i) 0 e in let y = eqb-true (form_at op i) 1 f in omega (arith, x, y))
          value (inr k) =
              one-within most_before (second_at op i)
              (omega (arith, leb-true (second_at op i) config.counts.values k, few.values))
      payload false e q = (omega arith, refl)

      each : item_exists config op Write i ≡ true
          → (item_length (object_at op i) (second_at op i) (form_at op i) ≤ 19)
          × (within most_before (item_numbers (object_at op i) (second_at op i) (form_at op i)) ≡ true)
      each x =
          let t = eqb (form_at op i) 1 || leb (second_at op i) config.counts.values in
          let o = object-low (object_at op i) (and_l (is_object config (object_at op i)) t x) in
          let p = payload (eqb (form_at op i) 0) refl (and_r (is_object config (object_at op i)) t x) in (
            omega (arith, p.0, bytes_2 (object_at op i) (omega (arith, o))),
            more_within most_before (object_at op i) (cond (eqb (form_at op i) 0) (second_at op i ∷ []) [])
                (omega (arith, o))
                p.1,
          )

  copy-item : (a : Actor) → q11 config op Copy a ≡ true → (i : ℕ) → i < op.count
      → (pair_length (object_at op i) (second_at op i) (form_at op i) ≤ 19)
      × (within most_before (pair_numbers (object_at op i) (second_at op i) (form_at op i)) ≡ true)
  copy-item a h i l = each (items_exist config op Copy a h i l)
    where
      low : (eqb (second_at op i) 0 ≡ true) ⊎ (is_object config (second_at op i) ≡ true) → second_at op i ≤ most_objects
      low (inl e) = let z = eqb-true (second_at op i) 0 e in omega (arith, z)
      low (inr e) = object-low (second_at op i) e

      each : item_exists config op Copy i ≡ true
          → (pair_length (object_at op i) (second_at op i) (form_at op i) ≤ 19)
          × (within most_before (pair_numbers (object_at op i) (second_at op i) (form_at op i)) ≡ true)
      each x =
          let t = eqb (second_at op i) 0 || is_object config (second_at op i) in
          let o = object-low (object_at op i) (and_l (is_object config (object_at op i)) t x) in
          let q = low (or_true (and_r (is_object config (object_at op i)) t x)) in (
            omega (arith, bytes_2 (object_at op i) (omega (arith, o)), bytes_2 (second_at op i) (omega (arith, q))),
            more_within most_before (object_at op i) (second_at op i ∷ []) (omega (arith, o))
                (one-within most_before (second_at op i) (omega (arith, q))),
          )

  listed-item : (i : ℕ) → is_object config (object_at op i) ≡ true
      → (listed_length (object_at op i) (second_at op i) (form_at op i) ≤ 19)
      × (within most_before (listed_numbers (object_at op i) (second_at op i) (form_at op i)) ≡ true)
  listed-item i x =
      let o = object-low (object_at op i) x in (
        omega (arith, bytes_2 (object_at op i) (omega (arith, o))),
        one-within most_before (object_at op i) (omega (arith, o)),
      )

  -- a head and items
  abbrev Fit : Family → Actor → Type 0
  Fit f a = (arguments_length f a op ≤ 154) × (within most_before (arguments_numbers f a op) ≡ true)

  listed_fit : (v : ℕ) (size : ℕ → ℕ → ℕ → ℕ) (numbers : ℕ → ℕ → ℕ → List ℕ) → v ≤ 63
      → ((i : ℕ) → i < op.count → (size (object_at op i) (second_at op i) (form_at op i) ≤ 19)
      × (within most_before (numbers (object_at op i) (second_at op i) (form_at op i)) ≡ true))
      → (bytes_to v + (bytes_to op.count + items_length size op op.count 0) ≤ 154)
      × (within most_before (v ∷ items_numbers numbers op op.count 0) ≡ true)
  listed_fit v size numbers low each =
      let w = width_1 v (omega (arith, low)) in
      let c = width_1 op.count (omega (arith, high)) in
      let m = items_most size 19 (λ i l. (each i l).0) op.count 0 (omega arith) in (
        omega (arith, w, c, m, high),
        more_within most_before v (items_numbers numbers op op.count 0) (omega (arith, low))
            (items_within most_before numbers (λ i l. (each i l).1) op.count 0 (omega arith)),
      )

  one_fit : (v : ℕ) → v ≤ 63 → (bytes_to v ≤ 154) × (within most_before (v ∷ []) ≡ true)
  one_fit v low = (omega (arith, bytes_3 v), one-within most_before v (omega (arith, low)))

  two_fit : (v w : ℕ) → v ≤ 63 → w ≤ 63 → (bytes_to v + bytes_to w ≤ 154) × (within most_before (v ∷ w ∷ []) ≡ true)
  two_fit v w l m = (
    omega (arith, bytes_3 v, bytes_3 w),
    more_within most_before v (w ∷ []) (omega (arith, l)) (one-within most_before w (omega (arith, m))),
  )

  subject_low : (a : Actor) → actor_exists config a op.subject ≡ true → (a ≡ External → ⊥) → op.subject ≤ 63
  subject_low Driver x n = omega (arith, driver-low x)
  subject_low Device x n = omega (arith, device-low x)
  subject_low External x n = absurd (n refl)

  abbrev inner : Actor → Bool
  inner Driver = true
  inner Device = true
  inner External = false

  inner_low : (f : Family) (a : Actor) → q11 config op f a ≡ true → inner a ≡ true → op.subject ≤ 63
  inner_low f a h t =
      subject_low a (actor_exists_lem config op f a h) (λ e. false≢true (ap inner (sym e) ∙ t))

  listing_fit : (f : Family) → ((i : ℕ) → item_exists config op f i ≡ true → is_object config (object_at op i) ≡ true)
      → q11 config op f External ≡ true → names_partition f External ≡ true → Fit Activate External
  listing_fit f exists h n =
      listed_fit op.partition listed_length listed_numbers (partition-low f External h n)
      (λ i l. listed-item i (exists i (items_exist config op f External h i l)))

  args_fit : (f : Family) (a : Actor) → fitting f a ≡ true → q11 config op f a ≡ true → Fit f a
  args_fit Write Driver t h =
      listed_fit op.subject item_length item_numbers (inner_low Write Driver h refl) (write-item Driver h)
  args_fit Write Device t h =
      listed_fit op.subject item_length item_numbers (inner_low Write Device h refl) (write-item Device h)
  args_fit Write External t h = absurd (false≢true t)
  args_fit Copy Driver t h =
      listed_fit op.subject pair_length pair_numbers (inner_low Copy Driver h refl) (copy-item Driver h)
  args_fit Copy Device t h =
      listed_fit op.subject pair_length pair_numbers (inner_low Copy Device h refl) (copy-item Device h)
  args_fit Copy External t h = absurd (false≢true t)
  args_fit Create a t h = one_fit op.partition (partition-low Create a h refl)
  args_fit Destroy a t h = one_fit op.partition (partition-low Destroy a h refl)
  args_fit Activate Driver t h =
      two_fit op.subject op.partition (inner_low Activate Driver h refl) (partition-low Activate Driver h refl)
  args_fit Activate Device t h =
      two_fit op.subject op.partition (inner_low Activate Device h refl) (partition-low Activate Device h refl)
  args_fit Activate External t h = listing_fit Activate (λ i x. x) h refl
  args_fit Deactivate Driver t h = one_fit op.subject (inner_low Deactivate Driver h refl)
  args_fit Deactivate Device t h = one_fit op.subject (inner_low Deactivate Device h refl)
  args_fit Deactivate External t h = listing_fit Deactivate (λ i x. x) h refl
  args_fit Lock Driver t h = one_fit op.subject (inner_low Lock Driver h refl)
  args_fit Lock Device t h = one_fit op.subject (inner_low Lock Device h refl)
  args_fit Lock External t h = absurd (false≢true t)
  args_fit Unlock Driver t h = one_fit op.subject (inner_low Unlock Driver h refl)
  args_fit Unlock Device t h = one_fit op.subject (inner_low Unlock Device h refl)
  args_fit Unlock External t h = absurd (false≢true t)

-- a record that can be read and that question 11 passes
pub passed_11 : (config : Config) → Few config → (bytes : List ℕ) → (read_operation bytes).0 ≡ 0
    → asks11 config bytes ≡ true
    → (record_length (read_operation bytes).1 ≤ most_record)
    × (within most_before (numbers_in (read_operation bytes).1) ≡ true)
passed_11 config few bytes z h =
    let op = (read_operation bytes).1 in
    let r : InRange op = read-ranged bytes z in
    let f = args_fit config few op r.few (family_of op.code) (actor_of op.code)
    (fitting-code op.code r.low r.high) h in
    let c = width_1 op.code (omega (arith, r.high)) in
    (omega (arith, c, f.0), f.1)
