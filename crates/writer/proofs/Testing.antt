-- Question 3 group by group is the model's.
use Prim.Native.Nat.{ℕ, zero, suc, ◌+◌, ◌≤◌, ◌<◌}
use mathlib.Core.Path.{◌≡◌, refl, sym, ap, ◌∙◌}
use mathlib.Core.List.{List, [], ◌∷◌, ◌++◌}
use mathlib.Core.Bool.{Bool, true, false, cond, ◌&&◌}
use native.Mathlib.Omega.{arith}
use native.Mathlib.Decide.{ℕ_discrete}
use lib.ListN.{get_or}
use lib.Dec.{leb, eqb}
use borrow.Author.Tests.{le-leb, lt-leb, eq-eqb, ne_eqb}
use Rattle.model.specs.Base.{all, every}
use Rattle.model.specs.Config.{most_entries, serial_edition, most_serial, hardcoded_of, serial_of}
use Rattle.model.specs.ConfigFile.{done, field, absent, counts_row, object_row, entry_row}
use Rattle.model.specs.ConfigWrite.{
  rows_from,
  counts_numbers,
  object_numbers,
  entry_numbers,
  object_rows,
  device_rows,
  entry_rows,
  value_rows,
  in_row,
  right_row,
}
use Rattle.model.specs.declared.Counts.{Counts}
use Rattle.model.specs.declared.Config.{Config}
use Rattle.model.proofs.Copied.{rows_more}
use Rattle.model.proofs.SameFile.{every-same}
use Rattle.model.proofs.FileWritten.{few-counts}
use Rattle.sound.specs.Columns.{Within}
use Rattle.writer.specs.Tests.{serial_most}

and-true : (b : Bool) → b && true ≡ b
and-true true = refl
and-true false = refl

and-false : (b : Bool) → b && false ≡ false
and-false true = refl
and-false false = refl

least : (n : ℕ) → leb 0 n ≡ true
least n = le-leb 0 n (omega arith)

-- counts that are in range are within the columns
pub counts_within : (counts : Counts) {b : Bool} → b ≡ in_row counts_row (counts_numbers counts) → b ≡ true
    → Within counts
counts_within counts e h =
    let f = few-counts counts (sym e ∙ h) in
    record { drivers = f.drivers; devices = f.devices; objects = f.objects; values = f.values }

-- the largest serial of an edition
module _ (edition : ℕ) where
  pub serial_none : edition < serial_edition → 0 ≡ serial_most edition
  unfolding serial_most
  serial_none h = rw (lt-leb serial_edition edition h)

  pub serial_some : serial_edition ≤ edition → most_serial ≡ serial_most edition
  unfolding serial_most
  serial_some h = rw (le-leb serial_edition edition h)

-- rows for each of the numbers 1 to n
module _ {A : Type 0} (p : A → Bool) where
  all_append : (a b : List A) → all p (a ++ b) ≡ all p a && all p b
  all_append [] b = refl
  all_append (x ∷ a) b = ap (λ (t : Bool). p x && t) (all_append a b) ∙ assoc (p x) (all p a) (all p b)
    where
      assoc : (r s t : Bool) → r && (s && t) ≡ (r && s) && t
      assoc true s t = refl
      assoc false s t = refl

  all-every : (g : ℕ → List A) (n : ℕ) → all p (rows_from g n 0) ≡ every n (λ k. all p (g k))
  unfolding rows_from
  all-every g zero = refl
  all-every g (suc n) =
      ap (all p) (rows_more g n 0) ∙ all_append (rows_from g n 0) (g (0 + suc n))
      ∙ rw (all-every g n) (ap (λ (k : ℕ). every n (λ j. all p (g j)) && all p (g k)) (omega arith))

-- the tests of each group are the model's
module _ (config : Config) where
  abbrev n : Counts
  n = config.counts

  pub objects-same : every n.objects (λ o. in_row (object_row n) (object_numbers config.objects o))
      ≡ every n.objects (λ o. all right_row (object_rows n config.objects o))
  objects-same = every-same n.objects _ _ (λ o low high. sym (and-true _))

  pub entries-same : (v m : ℕ)
      → every m (λ j. in_row (entry_row n config.objects.kind) (entry_numbers config.values v j))
      ≡ every m (λ j. all right_row (entry_rows n config.objects.kind config.values v j))
  entries-same v m = every-same m _ _ (λ j low high. sym (and-true _))

  -- a device, by its value number and its serial
  pub device-same : (c : ℕ)
      → leb (hardcoded_of config c) n.values && leb (serial_of config c) (serial_most n.edition)
      ≡ all right_row (device_rows n config.devices c)
  unfolding serial_most in_row
  device-same c =
      rw (least (hardcoded_of config c), and-true)
      (ap (λ (t : Bool). leb (hardcoded_of config c) n.values && t)
      (go (serial_of config c) (leb serial_edition n.edition)))
    where
      zero_most : (s : ℕ) → Dec (s ≡ 0) → leb s 0 ≡ eqb s 0
      zero_most s (yes e) = rw (eq-eqb s 0 e, le-leb s 0 (omega arith))
      zero_most s (no e) = rw (ne_eqb s 0 e, lt-leb s 0 (omega arith))

      go : (s : ℕ) (t : Bool) → leb s (cond t most_serial 0)
          ≡ in_row (cond t (field 0 most_serial λ serial. done) (absent done)) (s ∷ [])
      go s true = rw (least s, and-true)
      go s false = zero_most s (ℕ_discrete s 0) ∙ sym (and-true (eqb s 0))

  pub devices-same : (top : ℕ) → top ≡ serial_most n.edition
      → every n.devices (λ c. leb (hardcoded_of config c) n.values && leb (serial_of config c) top)
      ≡ every n.devices (λ c. all right_row (device_rows n config.devices c))
  devices-same top e = rw e (every-same n.devices _ _ (λ c low high. device-same c))

  -- a value, by its entry count and its entries
  module _ (v m : ℕ) (e : m ≡ get_or config.values.count v 0) where
    pub value_in : {b : Bool} → m ≤ most_entries
        → b ≡ every m (λ j. all right_row (entry_rows n config.objects.kind config.values v j))
        → b ≡ all right_row (value_rows n config.objects.kind config.values v)
    unfolding in_row
    value_in l h =
        let k : leb m most_entries ≡ true = le-leb m most_entries l in
        let z = rw e at k in
        rw (
          least (get_or config.values.count v 0),
          z,
          ← e,
          all-every right_row (entry_rows n config.objects.kind config.values v) m,
          h,
        )

    pub value_out : most_entries < m
        → false ≡ all right_row (value_rows n config.objects.kind config.values v)
    unfolding in_row
    value_out l = rw (least (get_or config.values.count v 0), ← e, lt-leb m most_entries l)

pub ruleset value_tests = (value_in, value_out)
