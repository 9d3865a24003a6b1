-- The bytes of a configuration's file put down group by group: what a loop has put down, how far that is, and that
-- the groups are the model's file.
use Prim.Native.Nat.{ℕ, ◌+◌, ◌-◌, ◌*◌, ◌≤◌, ◌<◌}
use mathlib.Core.Path.{◌≡◌, refl, sym, ap, ◌∙◌, subst}
use mathlib.Core.List.{List, [], ◌∷◌, ◌++◌, append_assoc, append-nil}
use mathlib.Core.Bool.{Bool, true, false, cond}
use native.Mathlib.Omega.{arith}
use native.Mathlib.Numerals.{add-one}
use lib.ListN.{length, get_or, length-append}
use lib.Dec.{leb}
use borrow.Author.Tests.{le-leb, lt-leb, leb-true}
use Rattle.model.specs.Number.{most_bytes, bytes_of}
use Rattle.model.specs.Base.{all}
use Rattle.model.specs.Config.{most_entries, most_edition, serial_edition, most_serial}
use Rattle.model.specs.Config.{hardcoded_of, serial_of}
use Rattle.model.specs.ConfigFile.{done, field, absent, counts_row}
use Rattle.model.specs.ConfigWrite.{
  rows_from,
  counts_numbers,
  object_rows,
  device_rows,
  entry_rows,
  value_rows,
  object_table,
  device_table,
  value_table,
  row_bytes,
  rows_bytes,
  file_of,
  right_row,
  in_ranges,
}
use Rattle.model.specs.declared.Counts.{Counts}
use Rattle.model.specs.declared.Values.{Values}
use Rattle.model.specs.declared.Config.{Config}
use Rattle.model.proofs.Copied.{rows_more, rows_same}
use Rattle.model.proofs.FileLength.{bytes_most, from_most, rows-bytes}
use Rattle.model.proofs.Rows.{row_head}
use Rattle.model.proofs.FileRead.{FewCounts}
use Rattle.model.proofs.FileWritten.{few-entries, ranges_asked}
use Rattle.model.proofs.Lists.{and_r, every_at}
use Rattle.page.specs.Page.{Placed}
use Rattle.page.proofs.Laying.{placed_nil, placed_then}
use Rattle.writer.specs.Bytes.{
  any_value_bytes,
  three,
  with_serial,
  object_bytes,
  device_bytes,
  entry_bytes_of,
  value_bytes,
}
use Rattle.writer.specs.Tests.{serial_most}
use Rattle.writer.proofs.Testing.{serial_some, device-same}

-- three numbers, and the counts
module _ (at : ℕ) (out : List ℕ) where
  pub three_placed : (a b c : ℕ) {p q r : ℕ} {out₁ out₂ out₃ : List ℕ} → Placed (bytes_of a) at out p out₁
      → Placed (bytes_of b) p out₁ q out₂ → Placed (bytes_of c) q out₂ r out₃ → Placed (three a b c) at out r out₃
  unfolding three
  three_placed a b c {p} {q} {r} {out₁} h k l =
      placed_then at out (bytes_of a) (bytes_of b ++ bytes_of c) h (placed_then p out₁ (bytes_of b) (bytes_of c) k l)

three-most : (a b c : ℕ) → length (three a b c) ≤ 3 * most_bytes
unfolding three
three-most a b c =
    omega (
      arith,
      length-append (bytes_of a) (bytes_of b ++ bytes_of c),
      length-append (bytes_of b) (bytes_of c),
      bytes_most a,
      bytes_most b,
      bytes_most c,
    )

module _ (out : List ℕ) (counts : Counts) where
  pub counts_placed : {p q r : ℕ} {out₁ out₂ out₃ : List ℕ}
      → Placed (three counts.edition counts.drivers counts.devices) 0 out p out₁
      → Placed (bytes_of counts.objects) p out₁ q out₂ → Placed (bytes_of counts.values) q out₂ r out₃
      → Placed (row_bytes counts_row (counts_numbers counts)) 0 out r out₃
  unfolding three row_bytes
  counts_placed {p} {q} {r} {out₁} {out₂} {out₃} h k l =
      let o = bytes_of counts.objects in
      let v = bytes_of counts.values in
      let d = bytes_of counts.drivers in
      let c = bytes_of counts.devices in
      let n = bytes_of counts.edition in
      let e : (n ++ (d ++ c)) ++ (o ++ v) ≡ n ++ (d ++ (c ++ (o ++ (v ++ [])))) =
      append_assoc n (d ++ c) (o ++ v)
      ∙ ap (λ (t : List ℕ). n ++ t) (append_assoc d c (o ++ v)
      ∙ ap (λ (t : List ℕ). d ++ (c ++ (o ++ t))) (sym (append-nil v))) in
      subst (λ (t : List ℕ). Placed t 0 out r out₃) e
      (placed_then 0 out (n ++ (d ++ c)) (o ++ v) h (placed_then p out₁ o v k l))

-- a device, by its ways out
module _ (edition number serial at : ℕ) (out : List ℕ) {p : ℕ} {out₁ : List ℕ}
    (h : Placed (bytes_of number) at out p out₁) where
  pub device_plain : edition < serial_edition
      → Placed (with_serial edition number serial) at out p out₁ × (p ≤ at + 2 * most_bytes)
  unfolding with_serial
  device_plain l = (
    rw (lt-leb serial_edition edition l, append-nil (bytes_of number)) h,
    omega (arith, h.0, bytes_most number),
  )

  pub device_serial : serial_edition ≤ edition → {q : ℕ} {out₂ : List ℕ} → Placed (bytes_of serial) p out₁ q out₂
      → Placed (with_serial edition number serial) at out q out₂ × (q ≤ at + 2 * most_bytes)
  unfolding with_serial
  device_serial l k = (
    rw (le-leb serial_edition edition l) (placed_then at out (bytes_of number) (bytes_of serial) h k),
    omega (arith, h.0, k.0, bytes_most number, bytes_most serial),
  )

-- a loop that puts down what stands for the numbers 1 to i
module _ (f : ℕ → List ℕ) (at : ℕ) (out : List ℕ) where
  pub rows_start : Placed (rows_from f 0 0) at out at out
  unfolding rows_from
  rows_start = placed_nil at out

  rows_next : (i : ℕ) {p q : ℕ} {out₁ out₂ : List ℕ} → Placed (rows_from f i 0) at out p out₁
      → Placed (f (i + 1)) p out₁ q out₂ → Placed (rows_from f (i + 1) 0) at out q out₂
  rows_next i {p} {q} {out₁} {out₂} h k =
      let e : rows_from f (i + 1) 0 ≡ rows_from f i 0 ++ f (i + 1) =
      ap (λ (n : ℕ). rows_from f n 0) (add-one i) ∙ rows_more f i 0
      ∙ ap (λ (n : ℕ). rows_from f i 0 ++ f n) (omega arith) in
      subst (λ (t : List ℕ). Placed t at out q out₂) (sym e) (placed_then at out (rows_from f i 0) (f (i + 1)) h k)

  -- the numbers before o are put down, and then o
  pub rows_turn : (o : ℕ) → 1 ≤ o → {p q : ℕ} {out₁ out₂ : List ℕ}
      → Placed (rows_from f (o - 1) 0) at out p out₁ → Placed (f o) p out₁ q out₂
      → Placed (rows_from f (o + 1 - 1) 0) at out q out₂
  rows_turn o first {p} {q} {out₁} {out₂} h k =
      let e : o - 1 + 1 ≡ o = omega arith in
      let d : o - 1 + 1 ≡ o + 1 - 1 = omega arith in
      subst (λ (i : ℕ). Placed (rows_from f i 0) at out q out₂) d
      (rows_next (o - 1) h (subst (λ (i : ℕ). Placed (f i) p out₁ q out₂) (sym e) k))

  pub rows_end : (n o : ℕ) → o ≡ n + 1 → {p : ℕ} {out₁ : List ℕ} → Placed (rows_from f (o - 1) 0) at out p out₁
      → Placed (rows_from f n 0) at out p out₁
  rows_end n o e {p} {out₁} h = subst (λ (j : ℕ). Placed (rows_from f j 0) at out p out₁) (omega arith) h

-- how long each is
pub entry-most : (t : Values) (v j : ℕ) → length (entry_bytes_of t v j) ≤ 3 * most_bytes
unfolding entry_bytes_of
entry-most t v j = three-most _ _ _

pub value-most : (t : Values) (v : ℕ) → get_or t.count v 0 ≤ most_entries → length (value_bytes t v) ≤ any_value_bytes
unfolding value_bytes
value-most t v h =
    let n = get_or t.count v 0 in
    omega (
      arith,
      h,
      length-append (bytes_of n) (rows_from (entry_bytes_of t v) n 0),
      bytes_most n,
      from_most (entry_bytes_of t v) (3 * most_bytes) n 0 (λ j low high. entry-most t v j),
    )

-- a value, and how far it goes
module _ (t : Values) (v : ℕ) (few : get_or t.count v 0 ≤ most_entries) (at : ℕ) (out : List ℕ) where
  pub value_placed : {p q : ℕ} {out₁ out₂ : List ℕ} → Placed (bytes_of (get_or t.count v 0)) at out p out₁
      → Placed (rows_from (entry_bytes_of t v) (get_or t.count v 0) 0) p out₁ q out₂
      → Placed (value_bytes t v) at out q out₂ × (q ≤ at + any_value_bytes)
  unfolding value_bytes
  value_placed {p} {q} {out₁} {out₂} h k =
      let n = get_or t.count v 0 in
      let w = placed_then at out (bytes_of n) (rows_from (entry_bytes_of t v) n 0) h k in
      (w, omega (arith, w.0, value-most t v few))

-- ---- the groups are the model's
module _ (config : Config) where
  three-row : (a b c : ℕ) → (bytes_of a ++ (bytes_of b ++ (bytes_of c ++ []))) ++ [] ≡ three a b c
  unfolding three
  three-row a b c =
      append-nil (bytes_of a ++ (bytes_of b ++ (bytes_of c ++ [])))
      ∙ ap (λ (t : List ℕ). bytes_of a ++ (bytes_of b ++ t)) (append-nil (bytes_of c))

  object-row : (o : ℕ) → rows_bytes (object_rows config.counts config.objects o)
      ≡ object_bytes config.objects o
  unfolding rows_bytes row_bytes object_bytes
  object-row o = three-row _ _ _

  device-row : (c : ℕ) → rows_bytes (device_rows config.counts config.devices c)
      ≡ device_bytes config.counts.edition config.devices c
  unfolding rows_bytes row_bytes device_bytes with_serial
  device-row c =
      append-nil _
      ∙ ap (λ (t : List ℕ). bytes_of (get_or config.devices.hardcoded c 0) ++ t)
      (go (get_or config.devices.serial c 0) (leb serial_edition config.counts.edition))
    where
      go : (s : ℕ) (t : Bool) → row_bytes (cond t (field 0 most_serial λ serial. done) (absent done)) (s ∷ [])
          ≡ cond t (bytes_of s) []
      go s true = append-nil (bytes_of s)
      go s false = refl

  entry_row_lem : (v j : ℕ) → rows_bytes (entry_rows config.counts config.objects.kind config.values v j)
      ≡ entry_bytes_of config.values v j
  unfolding rows_bytes row_bytes entry_bytes_of
  entry_row_lem v j = three-row _ _ _

  value_row_lem : (v : ℕ) → rows_bytes (value_rows config.counts config.objects.kind config.values v)
      ≡ value_bytes config.values v
  unfolding rows_bytes row_bytes value_bytes
  value_row_lem v =
      let n = get_or config.values.count v 0 in
      let g = entry_rows config.counts config.objects.kind config.values v in
      let e : rows_bytes (rows_from g n 0) ≡ rows_from (entry_bytes_of config.values v) n 0 =
      rows-bytes g n 0
      ∙ rows_same (λ j. rows_bytes (g j)) (entry_bytes_of config.values v) n 0
      (λ j low high. entry_row_lem v j) in
      let f = append-nil (bytes_of n) in
      λ x. f x ++ e x

  objects-bytes : rows_bytes (object_table config)
      ≡ rows_from (object_bytes config.objects)
      config.counts.objects 0
  objects-bytes =
      rows-bytes (object_rows config.counts config.objects) config.counts.objects 0
      ∙ rows_same _ _ config.counts.objects 0 (λ o low high. object-row o)

  devices-bytes : rows_bytes (device_table config)
      ≡ rows_from (device_bytes config.counts.edition config.devices)
      config.counts.devices 0
  devices-bytes =
      rows-bytes (device_rows config.counts config.devices) config.counts.devices 0
      ∙ rows_same _ _ config.counts.devices 0 (λ c low high. device-row c)

  values-bytes : rows_bytes (value_table config)
      ≡ rows_from (value_bytes config.values) config.counts.values 0
  values-bytes =
      rows-bytes (value_rows config.counts config.objects.kind config.values) config.counts.values 0
      ∙ rows_same _ _ config.counts.values 0 (λ v low high. value_row_lem v)

  -- one group after the other is the file
  pub file_placed : (out : List ℕ) {a b c d : ℕ} {out₁ out₂ out₃ out₄ : List ℕ}
      → Placed (row_bytes counts_row (counts_numbers config.counts)) 0 out a out₁
      → Placed (rows_from (object_bytes config.objects)
      config.counts.objects 0) a out₁ b out₂
      → Placed (rows_from (device_bytes config.counts.edition config.devices)
      config.counts.devices 0) b out₂ c out₃
      → Placed (rows_from (value_bytes config.values) config.counts.values 0)
      c out₃ d out₄
      → Placed (file_of config) 0 out d out₄
  unfolding file_of
  file_placed out {a} {b} {c} {d} {out₁} {out₂} {out₃} {out₄} h o e v =
      rw (objects-bytes, devices-bytes, values-bytes)
      (placed_then 0 out _ _ h (placed_then a out₁ _ _ o (placed_then b out₂ _ _ e v)))

  -- what question 3 tells of the counts and the serials
  module _ (h : in_ranges config ≡ true) where
    pub few_of : FewCounts config.counts
    few_of = (ranges_asked config h).few

    pub entries_few : (v : ℕ) → 1 ≤ v → v ≤ config.counts.values → get_or config.values.count v 0 ≤ most_entries
    entries_few = few-entries config (ranges_asked config h)

    pub edition_few : config.counts.edition ≤ most_edition
    edition_few = (row_head 1 most_edition _ config.counts.edition _ (ranges_asked config h).counts).1

    pub serials_few : (c : ℕ) → 1 ≤ c → c ≤ config.counts.devices → serial_edition ≤ config.counts.edition
        → serial_of config c ≤ most_serial
    serials_few c low high l =
        let n = config.counts in
        let right =
        device-same config c
        ∙ every_at n.devices (λ c. all right_row (device_rows n config.devices c)) (ranges_asked config h).devices
        c low high in
        subst (λ (top : ℕ). serial_of config c ≤ top) (sym (serial_some n.edition l))
        (leb-true (serial_of config c) (serial_most n.edition)
        (and_r (leb (hardcoded_of config c) n.values) (leb (serial_of config c) (serial_most n.edition)) right))

pub ruleset few_laws = (few_of, entries_few, edition_few, serials_few)
