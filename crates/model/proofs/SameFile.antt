-- Request N1: two configurations that tell the same file have the same file, the same entries, and the same answers to
-- questions 5 and 6.
use Prim.Native.Nat.{ℕ, zero, suc, ◌+◌, ◌*◌, ◌≤◌, ◌<◌}
use mathlib.Core.Path.{◌≡◌, refl, sym, ap, ◌∙◌, subst}
use mathlib.Core.List.{List, [], ◌∷◌, ◌++◌}
use mathlib.Core.Bool.{Bool, true, false, not, ◌&&◌, ◌||◌, cond}
use native.Mathlib.Omega.{arith}
use lib.ListN.{get_or}
use lib.Dec.{eqb}
use Rattle.model.specs.Base.{all, every}
use Rattle.model.specs.Config.{
  entry_bytes,
  entry_place,
  kind_of,
  class_of,
  owner_of,
  hardcoded_of,
  from1to,
  hardcoded_to,
  Entry,
  entry_at,
  entries_from,
  entries,
}
use Rattle.model.specs.ConfigFile.{
  counts_row,
  object_row,
  device_row,
  value_row,
  entry_row,
  how_many,
  paired,
  own_entry,
  restrained,
}
use Rattle.model.specs.ConfigWrite.{
  rows_from,
  Filled,
  counts_numbers,
  count_numbers,
  object_rows,
  device_rows,
  entry_rows,
  value_rows,
  object_table,
  device_table,
  row_bytes,
  rows_bytes,
  file_of,
  SameFile,
}
use Rattle.model.specs.declared.Counts.{Counts}
use Rattle.model.specs.declared.Values.{Values}
use Rattle.model.specs.declared.Config.{Config}
use Rattle.model.proofs.Lists.{from1to-low, from1to-high}
use Rattle.model.proofs.Rows.{rows_append}
use Rattle.model.proofs.Copied.{rows_same}

-- tests that agree at each number
pub every-same : (n : ℕ) (p q : ℕ → Bool) → ((i : ℕ) → 1 ≤ i → i ≤ n → p i ≡ q i) → every n p ≡ every n q
every-same zero p q h = refl
every-same (suc n) p q h =
    let r = every-same n p q (λ i low high. h i low (omega arith)) in
    let e = h (suc n) (omega arith) (omega arith) in
    λ x. r x && e x

pub many-same : (n : ℕ) (p q : ℕ → Bool) → ((i : ℕ) → 1 ≤ i → i ≤ n → p i ≡ q i) → how_many n p ≡ how_many n q
many-same zero p q h = refl
many-same (suc n) p q h =
    let r = many-same n p q (λ i low high. h i low (omega arith)) in
    let e = h (suc n) (omega arith) (omega arith) in
    λ x. r x + cond (e x) 1 0

pub all_same : {A : Type 0} (p q : A → Bool) → ((a : A) → p a ≡ q a) → (l : List A) → all p l ≡ all q l
all_same p q h [] = refl
all_same p q h (a ∷ l) =
    let r = all_same p q h l in
    let e = h a in
    λ x. e x && r x

pub from_same : (t u : List ℕ) (n at : ℕ) → ((i : ℕ) → i < n → entry_at t (at + entry_bytes * i) ≡ entry_at u
    (at + entry_bytes * i))
    → entries_from t at n ≡ entries_from u at n
unfolding entries_from
from_same t u zero at h = refl
from_same t u (suc n) at h =
    let z : at + entry_bytes * 0 ≡ at = omega arith in
    let e = subst (λ (p : ℕ). entry_at t p ≡ entry_at u p) z (h 0 (omega arith)) in
    let r =
    from_same t u n (at + entry_bytes) (λ i less.
    (let s : at + entry_bytes * suc i ≡ at + entry_bytes + entry_bytes * i = omega arith in
    subst (λ (p : ℕ). entry_at t p ≡ entry_at u p) s (h (suc i) (omega arith)))) in
    λ x. e x ∷ r x

-- bytes of rows
bytes_same : (g h : ℕ → List Filled) → ((k : ℕ) → rows_bytes (g k) ≡ rows_bytes (h k)) → (n i : ℕ)
    → rows_bytes (rows_from g n i) ≡ rows_bytes (rows_from h n i)
unfolding rows_from
bytes_same g h e zero i = refl
bytes_same g h e (suc n) i =
    let a = e (i + 1) in
    let r = bytes_same g h e n (i + 1) in
    rows_append (g (i + 1)) (rows_from g n (i + 1))
    ∙ ((λ x. a x ++ r x) ∙ sym (rows_append (h (i + 1)) (rows_from h n (i + 1))))

-- an entry's bytes do not depend on the kinds
pub value-bytes-same : (counts : Counts) (k l : List ℕ) (src : Values) (n : ℕ)
    → rows_bytes (rows_from (value_rows counts k src) n 0) ≡ rows_bytes (rows_from (value_rows counts l src) n 0)
unfolding row_bytes rows_bytes
value-bytes-same counts k l src n =
    bytes_same (value_rows counts k src) (value_rows counts l src) (λ v.
    ap (λ (x : List ℕ). row_bytes value_row (count_numbers src v) ++ x)
    (bytes_same (entry_rows counts k src v) (entry_rows counts l src v) (λ j. refl) (get_or src.count v 0) 0)) n 0

module _ (config other : Config) (same : SameFile config other) where
  -- question 5
  same-hardcoded_to : (c n : ℕ) → 1 ≤ n → n ≤ config.counts.objects → hardcoded_to config c n ≡ hardcoded_to other c n
  same-hardcoded_to c n low high =
      let k = same.kind n low high in
      let l = same.class n low high in
      let o = same.owner n low high in
      let s = same.counts in
      λ x. eqb (k x) 4 && (from1to n (s x).objects && eqb (l x) 2 && eqb (o x) c)

  pub same-paired : paired config ≡ paired other
  unfolding paired
  same-paired =
      let a =
      every-same config.counts.devices
      (λ c. eqb (how_many config.counts.objects (hardcoded_to config c)) 1)
      (λ c. eqb (how_many config.counts.objects (hardcoded_to other c)) 1)
      (λ c low high.
      ap (λ (n : ℕ). eqb n 1)
      (many-same config.counts.objects (hardcoded_to config c) (hardcoded_to other c) (same-hardcoded_to c))) in
      let b =
      every-same config.counts.objects
      (λ n. not (eqb (kind_of config n) 4) || eqb (class_of config n) 2)
      (λ n. not (eqb (kind_of other n) 4) || eqb (class_of other n) 2)
      (λ n low high.
      let k = same.kind n low high in
      let l = same.class n low high in
      λ x. not (eqb (k x) 4) || eqb (l x) 2) in
      let s = same.counts in
      (λ x. a x && b x)
      ∙ λ x. every (s x).devices (λ c. eqb (how_many (s x).objects (hardcoded_to other c)) 1)
      && every (s x).objects (λ n. not (eqb (kind_of other n) 4) || eqb (class_of other n) 2)

  -- question 6
  pub same_entries : (v : ℕ) → v ≤ config.counts.values → entries config v ≡ entries other v
  unfolding entries
  same_entries zero high = refl
  same_entries (suc v) high =
      from_same config.values.entries other.values.entries (get_or config.values.count (suc v) 0)
      (entry_place (suc v) 1) (λ i less.
      (let s : entry_place (suc v) (suc i) ≡ entry_place (suc v) 1 + entry_bytes * i = omega arith in
      subst (λ (p : ℕ). entry_at config.values.entries p ≡ entry_at other.values.entries p) s
      (same.entry (suc v) (suc i) (omega arith) high (omega arith) (omega arith))))
      ∙ ap (entries_from other.values.entries (entry_place (suc v) 1)) (same.count (suc v) (omega arith) high)

  same-own : (c : ℕ) (e : Entry) → own_entry config c e ≡ own_entry other c e
  same-own c e = go (from1to e.object config.counts.objects) refl
    where
      o : ℕ
      o = e.object

      test : Bool → ℕ → ℕ → ℕ → Bool
      test guard kind class owner = guard && eqb class 2 && eqb owner c && not (eqb kind 4)

      outside : (k l m k' l' m' : ℕ) → test false k l m ≡ test false k' l' m'
      outside k l m k' l' m' = refl

      go : (t : Bool) → from1to o config.counts.objects ≡ t → own_entry config c e ≡ own_entry other c e
      go true h =
          let low = from1to-low o config.counts.objects h in
          let high = from1to-high o config.counts.objects h in
          let k = same.kind o low high in
          let l = same.class o low high in
          let m = same.owner o low high in
          let s = same.counts in
          λ x. test (from1to o (s x).objects) (k x) (l x) (m x)
      go false h =
          let s = same.counts in
          let g : from1to o other.counts.objects ≡ false =
          ap (λ (n : Counts). from1to o n.objects) (sym s) ∙ h in
          (λ x. test (h x) (kind_of config o) (class_of config o) (owner_of config o))
          ∙ (outside (kind_of config o) (class_of config o) (owner_of config o) (kind_of other o) (class_of other o)
          (owner_of other o)
          ∙ λ x. test (sym g x) (kind_of other o) (class_of other o) (owner_of other o))

  pub same-restrained : ((c : ℕ) → 1 ≤ c → c ≤ config.counts.devices → hardcoded_of config c ≤ config.counts.values)
      → restrained config ≡ restrained other
  unfolding restrained
  same-restrained within =
      let a =
      every-same config.counts.devices
      (λ c. all (own_entry config c) (entries config (hardcoded_of config c)))
      (λ c. all (own_entry other c) (entries other (hardcoded_of other c)))
      (λ c low high.
      all_same (own_entry config c) (own_entry other c) (same-own c) (entries config (hardcoded_of config c))
      ∙ ap (all (own_entry other c))
      (same_entries (hardcoded_of config c) (within c low high)
      ∙ ap (entries other) (same.hardcoded c low high))) in
      a ∙ ap (λ (n : Counts). every n.devices (λ c. all (own_entry other c) (entries other (hardcoded_of other c))))
      same.counts

  -- the file
  objects-same : object_table config ≡ rows_from (object_rows config.counts other.objects)
      config.counts.objects 0
  objects-same =
      rows_same (object_rows config.counts config.objects) (object_rows config.counts other.objects)
      config.counts.objects 0 (λ n low high.
      let k = same.kind n low (omega arith) in
      let l = same.class n low (omega arith) in
      let m = same.owner n low (omega arith) in
      λ x. record { row = object_row config.counts; numbers = k x ∷ l x ∷ m x ∷ [] } ∷ [])

  devices-same : device_table config ≡ rows_from (device_rows config.counts other.devices)
      config.counts.devices 0
  devices-same =
      rows_same (device_rows config.counts config.devices) (device_rows config.counts other.devices)
      config.counts.devices 0 (λ n low high.
      let h = same.hardcoded n low (omega arith) in
      let e = same.serial n low (omega arith) in
      λ x. record { row = device_row config.counts; numbers = h x ∷ e x ∷ [] } ∷ [])

  pub value-rows : (kinds : List ℕ) (v : ℕ) → 1 ≤ v → v ≤ config.counts.values
      → value_rows config.counts kinds config.values v ≡ value_rows config.counts kinds other.values v
  value-rows kinds v low high =
      let c = same.count v low high in
      let e =
      rows_same (entry_rows config.counts kinds config.values v)
      (entry_rows config.counts kinds other.values v) (get_or config.values.count v 0) 0 (λ j lj hj.
      let q = same.entry v j low high lj (omega arith) in
      λ x. record {
        row = entry_row config.counts kinds;
        numbers = (q x).object ∷ (q x).mode ∷ (q x).value ∷ [];
      } ∷ []) in
      (λ x. record { row = value_row; numbers = get_or config.values.count v 0 ∷ [] } ∷ e x)
      ∙ λ x. record { row = value_row; numbers = c x ∷ [] }
      ∷ rows_from (entry_rows config.counts kinds other.values v) (c x) 0

  pub same_bytes_lem : file_of config ≡ file_of other
  unfolding file_of
  same_bytes_lem =
      let s = same.counts in
      let o = objects-same in
      let d = devices-same in
      let v =
      ap rows_bytes (rows_same (value_rows config.counts config.objects.kind config.values)
      (value_rows config.counts config.objects.kind other.values) config.counts.values 0
      (λ n low high. value-rows config.objects.kind n low (omega arith)))
      ∙ value-bytes-same config.counts config.objects.kind other.objects.kind other.values
      config.counts.values in
      let f : Counts → List ℕ = λ counts.
      row_bytes counts_row (counts_numbers counts)
      ++ (rows_bytes (rows_from (object_rows counts other.objects) counts.objects 0)
      ++ (rows_bytes (rows_from (device_rows counts other.devices) counts.devices 0)
      ++ rows_bytes (rows_from (value_rows counts other.objects.kind other.values) counts.values 0))) in
      (λ x. row_bytes counts_row (counts_numbers config.counts)
      ++ (rows_bytes (o x) ++ (rows_bytes (d x) ++ v x)))
      ∙ ap f s
