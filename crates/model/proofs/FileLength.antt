-- Requests N1 and N2: how long a written file is at most: as many bytes as the largest number of each field has.
use Prim.Native.Nat.{ℕ, zero, suc, ◌+◌, ◌*◌, ◌/◌, ◌%◌, ◌≤◌, ◌<◌}
use mathlib.Core.Path.{◌≡◌, refl, ap, ◌∙◌}
use mathlib.Core.List.{List, [], ◌∷◌, ◌++◌}
use mathlib.Core.Bool.{Bool, true, false, cond, ◌&&◌}
use native.Mathlib.Nat.{le_trans}
use native.Mathlib.Omega.{arith}
use lib.ListN.{length, get_or, length-append}
use lib.Dec.{leb, ltb, eqb}
use borrow.Author.Tests.{leb-true, ltb-true, ltb-false}
use Rattle.model.specs.Base.{all}
use Rattle.model.specs.Number.{most_bytes, bytes_of, bytes_to}
use Rattle.model.specs.Config.{
  most_drivers,
  most_devices,
  most_objects,
  most_values,
  most_entries,
  most_edition,
  serial_edition,
  most_serial,
  most_kind,
  most_class,
  most_mode,
}
use Rattle.model.specs.ConfigFile.{
  Row,
  done,
  field,
  absent,
  since,
  owner_least,
  owner_most,
  stored_most,
  counts_row,
  object_row,
  device_row,
  entry_row,
  value_row,
}
use Rattle.model.specs.ConfigWrite.{
  most_counts_bytes,
  most_object_bytes,
  most_device_bytes,
  most_entry_bytes,
  most_value_bytes,
  most_written,
  rows_from,
  counts_numbers,
  count_numbers,
  Filled,
  object_rows,
  device_rows,
  entry_rows,
  value_rows,
  object_table,
  device_table,
  value_table,
  row_bytes,
  rows_bytes,
  file_of,
  in_row,
  right_row,
  in_ranges,
}
use Rattle.model.specs.declared.Counts.{Counts}
use Rattle.model.specs.declared.Config.{Config}
use Rattle.model.proofs.Lists.{and_l, and_r, every_at}
use Rattle.model.proofs.Copied.{rows_all}
use Rattle.model.proofs.Rows.{rows_append}
use Rattle.model.proofs.FileRead.{FewCounts}
use Rattle.model.proofs.FileWritten.{RangesAsked, few-entries, ranges_asked}

-- a number
pub bytes_most : (v : ℕ) → length (bytes_of v) ≤ most_bytes
unfolding bytes_of
bytes_most v = go (ltb v 128) (ltb v 16384)
  where
    go : (a b : Bool) → length (cond a (v ∷ [])
        (cond b ((v % 128 + 128) ∷ (v / 128) ∷ [])
        ((v % 128 + 128) ∷ (v / 128 % 128 + 128) ∷ (v / 16384) ∷ []))) ≤ most_bytes
    go true b = omega arith
    go false true = omega arith
    go false false = omega arith

-- a number that is no larger has no more bytes
bytes-within : (v most : ℕ) → v ≤ most → length (bytes_of v) ≤ bytes_to most
unfolding bytes_of
bytes-within v most l =
    go (ltb v 128) (ltb v 16384) (ltb most 128) (ltb most 16384) (ltb-false v 128) (ltb-false v 16384)
    (ltb-true most 128) (ltb-true most 16384)
  where
    go : (a b c d : Bool) → (a ≡ false → 128 ≤ v) → (b ≡ false → 16384 ≤ v) → (c ≡ true → most < 128)
        → (d ≡ true → most < 16384)
        → length (cond a (v ∷ [])
        (cond b ((v % 128 + 128) ∷ (v / 128) ∷ [])
        ((v % 128 + 128) ∷ (v / 128 % 128 + 128) ∷ (v / 16384) ∷ []))) ≤ cond c 1 (cond d 2 3)
    go true b true d h k m n = omega arith
    go true b false true h k m n = omega arith
    go true b false false h k m n = omega arith
    go false b true d h k m n = absurd (let x = h refl in let y = m refl in omega arith)
    go false true false true h k m n = omega arith
    go false true false false h k m n = omega arith
    go false false false true h k m n = absurd (let x = k refl in let y = n refl in omega arith)
    go false false false false h k m n = omega arith

-- the numbers of a row that are in their ranges have at most m bytes
abbrev Fits : Row → ℕ → Type 0
Fits row m = (vs : List ℕ) → in_row row vs ≡ true → length (row_bytes row vs) ≤ m

fits-done : Fits done 0
unfolding row_bytes
fits-done vs h = omega arith

fits-field : (low high most m : ℕ) (rest : ℕ → Row) → high ≤ most → ((v : ℕ) → Fits (rest v) m)
    → Fits (field low high rest) (bytes_to most + m)
unfolding row_bytes in_row
fits-field low high most m rest l fits [] h = omega arith
fits-field low high most m rest l fits (v ∷ vs) h =
    let top : v ≤ high = leb-true v high (search (and_l, and_r)) in
    omega (
      arith,
      length-append (bytes_of v) (row_bytes (rest v) vs),
      bytes-within v most (le_trans top l),
      fits v vs (search (and_l, and_r)),
    )

-- a number that is there from an edition on
fits-since : (edition high m : ℕ) (counts : Counts) (rest : Row) → Fits rest m
    → Fits (since edition counts (λ more. field 0 high λ v. more) rest) (bytes_to high + m)
unfolding row_bytes in_row
fits-since edition high m counts rest fits = go (leb edition counts.edition)
  where
    absent-fits : (vs : List ℕ) → in_row (absent rest) vs ≡ true → length (row_bytes (absent rest) vs) ≤ bytes_to
        high + m
    absent-fits [] h = omega arith
    absent-fits (v ∷ vs) h = omega (arith, fits vs (and_r (eqb v 0) (in_row rest vs) h))

    go : (t : Bool) → Fits (cond t (field 0 high λ v. rest) (absent rest)) (bytes_to high + m)
    go true = fits-field 0 high high m (λ v. rest) (omega arith) (λ v. fits)
    go false = absent-fits

-- each row of a file
counts_fit_lem : Fits counts_row most_counts_bytes
counts_fit_lem =
    fits-field 1 most_edition most_edition _ _ (omega arith) λ e.
    fits-field 0 most_drivers most_drivers _ _ (omega arith) λ d.
    fits-field 0 most_devices most_devices _ _ (omega arith) λ v.
    fits-field 0 most_objects most_objects _ _ (omega arith) λ n.
    fits-field 0 most_values most_values _ _ (omega arith) λ k.
    fits-done

value-fits : Fits value_row (bytes_to most_entries)
value-fits = fits-field 0 most_entries most_entries _ _ (omega arith) λ n. fits-done

module _ (counts : Counts) (few : FewCounts counts) where
  at_most : (t : Bool) (a b most : ℕ) → a ≤ most → b ≤ most → cond t a b ≤ most
  at_most true a b most p q = p
  at_most false a b most p q = q

  owner-within : (class : ℕ) → owner_most counts class ≤ most_drivers + most_devices
  unfolding owner_most
  owner-within class =
      at_most (eqb class 0) 0 _ _ (omega arith)
      (at_most (eqb class 1) counts.drivers counts.devices _ (omega (arith, few.drivers))
      (omega (arith, few.devices)))

  stored-within : (kinds : List ℕ) (o mode : ℕ) → stored_most counts kinds o mode ≤ most_values
  unfolding stored_most
  stored-within kinds o mode =
      at_most (eqb (get_or kinds o 0) 1 && leb 2 mode) counts.values 0 most_values few.values (omega arith)

  object-fits : Fits (object_row counts) most_object_bytes
  object-fits =
      fits-field 1 most_kind most_kind _ _ (omega arith) λ kind.
      fits-field 0 most_class most_class _ _ (omega arith) λ class.
      fits-field (owner_least class) (owner_most counts class) (most_drivers + most_devices) _ _ (owner-within class)
      λ owner. fits-done

  device-fits : Fits (device_row counts) most_device_bytes
  device-fits =
      fits-field 0 counts.values most_values _ _ few.values λ w.
      fits-since serial_edition most_serial 0 counts done fits-done

  entry-fits : (kinds : List ℕ) → Fits (entry_row counts kinds) most_entry_bytes
  entry-fits kinds =
      fits-field 1 counts.objects most_objects _ _ few.objects λ o.
      fits-field 1 most_mode most_mode _ _ (omega arith) λ mode.
      fits-field 0 (stored_most counts kinds o mode) most_values _ _ (stored-within kinds o mode) λ w. fits-done

-- what stands for each of n numbers, none longer than m
pub from_most : (f : ℕ → List ℕ) (m n i : ℕ) → ((k : ℕ) → i < k → k ≤ i + n → length (f k) ≤ m)
    → length (rows_from f n i) ≤ m * n
unfolding rows_from
from_most f m zero i h = omega arith
from_most f m (suc n) i h =
    omega (
      arith,
      length-append (f (i + 1)) (rows_from f n (i + 1)),
      h (i + 1) (omega arith) (omega arith),
      from_most f m n (i + 1) (λ k low high. h k (omega arith) (omega arith)),
    )

-- rows in order: their bytes are those of each
pub rows-bytes : (g : ℕ → List Filled) (n i : ℕ) → rows_bytes (rows_from g n i) ≡ rows_from (λ k. rows_bytes (g k)) n i
unfolding rows_from rows_bytes
rows-bytes g zero i = refl
rows-bytes g (suc n) i =
    rows_append (g (i + 1)) (rows_from g n (i + 1))
    ∙ ap (λ (l : List ℕ). rows_bytes (g (i + 1)) ++ l) (rows-bytes g n (i + 1))

table-most : (g : ℕ → List Filled) (m n : ℕ) → ((k : ℕ) → 1 ≤ k → k ≤ n → length (rows_bytes (g k)) ≤ m)
    → length (rows_bytes (rows_from g n 0)) ≤ m * n
table-most g m n h =
    rw (rows-bytes g n 0) (from_most (λ k. rows_bytes (g k)) m n 0 (λ k low high. h k (omega arith) (omega arith)))

-- one row alone
one_most : (r : Filled) (m : ℕ) → Fits r.row m → all right_row (r ∷ []) ≡ true → length (rows_bytes (r ∷ [])) ≤ m
unfolding rows_bytes
one_most r m fits h =
    omega (
      arith,
      length-append (row_bytes r.row r.numbers) [],
      fits r.numbers (and_l (in_row r.row r.numbers) true h),
    )

-- value v: its count, and at most six entries
value-most : (config : Config) → RangesAsked config → (v : ℕ) → 1 ≤ v → v ≤ config.counts.values
    → length (rows_bytes (value_rows config.counts config.objects.kind config.values v))
    ≤ most_value_bytes
unfolding rows_bytes
value-most config r v low high =
    let n = get_or config.values.count v 0 in
    let g = entry_rows config.counts config.objects.kind config.values v in
    let c = count_numbers config.values v in
    let h : all right_row (value_rows config.counts config.objects.kind config.values v) ≡ true =
    every_at config.counts.values _ r.values v low high in
    let rows : all right_row (rows_from g n 0) ≡ true = and_r (in_row value_row c) _ h in
    omega (
      arith,
      length-append (row_bytes value_row c) (rows_bytes (rows_from g n 0)),
      value-fits c (and_l (in_row value_row c) _ h),
      table-most g most_entry_bytes n
          (λ k l m. one_most _ _ (entry-fits config.counts r.few config.objects.kind)
          (rows_all right_row g n 0 rows k l (omega arith))),
      few-entries config r v low high,
    )

-- N1, N2: a file is no longer than one in which every number is the largest of its field
pub file-most : (config : Config) → in_ranges config ≡ true → length (file_of config) ≤ most_written
unfolding file_of
file-most config h =
    let r = ranges_asked config h in
    let n = config.counts in
    let f = r.few in
    let cs = row_bytes counts_row (counts_numbers n) in
    let os = rows_bytes (object_table config) in
    let ds = rows_bytes (device_table config) in
    let vs = rows_bytes (value_table config) in
    omega (
      arith,
      length-append cs (os ++ (ds ++ vs)),
      length-append os (ds ++ vs),
      length-append ds vs,
      counts_fit_lem (counts_numbers n) r.counts,
      table-most (object_rows n config.objects) most_object_bytes n.objects
          (λ k l m. one_most _ _ (object-fits n f) (every_at n.objects _ r.objects k l m)),
      table-most (device_rows n config.devices) most_device_bytes n.devices
          (λ k l m. one_most _ _ (device-fits n f) (every_at n.devices _ r.devices k l m)),
      table-most (value_rows n config.objects.kind config.values) most_value_bytes n.values
          (value-most config r),
      f.objects,
      f.devices,
      f.values,
    )
