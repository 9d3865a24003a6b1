-- Laws of the rows: their tests are the model's, and numbers of one byte in their ranges are read as the row.
-- Assumes nothing.
use Prim.Native.Nat.{ℕ, ◌+◌, ◌-◌, ◌<◌, ◌≤◌}
use mathlib.Core.Path.{◌≡◌, refl, sym, ap}
use Rattle.std.specs.Prelude.{Ok}
use mathlib.Core.List.{List, [], ◌∷◌}
use mathlib.Core.Bool.{Bool, true, false, cond, false≢true, ◌&&◌}
use lib.ListN.{length, get_or}
use lib.Dec.{leb, eqb}
use borrow.Author.Tests.{le-leb}
use native.Mathlib.Omega.{arith}
use Rattle.model.specs.Config.{
  most_drivers,
  most_devices,
  most_objects,
  most_values,
  most_edition,
  most_kind,
  most_class,
  most_mode,
}
use Rattle.model.specs.ConfigFile.{
  field_at,
  on_field,
  Row,
  done,
  field,
  absent,
  read_row,
  counts_row,
  counts_of,
  counts_to,
  counts_at,
  object_row,
  object_of,
  object_to,
  object,
  entry_row,
  entry_of,
  entry_to,
  entry,
  read,
  stop,
  owner_least,
  owner_most,
  stored_most,
}
use Rattle.model.specs.ConfigWrite.{counts_numbers, in_row}
use Rattle.model.specs.Field.{Value}
use Rattle.model.specs.Head.{Counted, Stopped}
use Rattle.model.specs.declared.Counts.{Counts}
use Rattle.model.specs.declared.Objects.{Objects}
use Rattle.model.specs.declared.Values.{Values}
use Rattle.model.proofs.Rows.{row_head}
use Rattle.varint.proofs.Numbers.{number_short}
use Rattle.sound.specs.Columns.{Within}
use Rattle.config.specs.Readings.{progress}
use Rattle.config.proofs.Readers.{field_value, field_most}

and-true : (b : Bool) → b && true ≡ b
and-true true = refl
and-true false = refl

and-false : (b : Bool) → b && false ≡ false
and-false true = refl
and-false false = refl

pub least : (n : ℕ) → leb 0 n ≡ true
least n = le-leb 0 n (omega arith)

-- ---- the tests of a row
module _ (counts : Counts) where
  five : (a b c d e : Bool) → a && b && c && d && e ≡ a && (b && (c && (d && (e && true))))
  five true true true true e = sym (and-true e)
  five true true true false e = refl
  five true true false d e = refl
  five true false c d e = refl
  five false b c d e = refl

  pub counts_same : leb 1 counts.edition && leb counts.edition most_edition
      && leb counts.drivers most_drivers && leb counts.devices most_devices
      && leb counts.objects most_objects && leb counts.values most_values
      ≡ in_row counts_row (counts_numbers counts)
  unfolding in_row
  counts_same =
      rw (least counts.drivers, least counts.devices, least counts.objects, least counts.values)
      (five (leb 1 counts.edition && leb counts.edition most_edition) (leb counts.drivers most_drivers)
      (leb counts.devices most_devices) (leb counts.objects most_objects) (leb counts.values most_values))

  pub object_same : (k c w : ℕ) {low high : ℕ} → low ≡ owner_least c → high ≡ owner_most counts c
      → leb 1 k && leb k most_kind && leb c most_class && leb low w && leb w high
      ≡ in_row (object_row counts) (k ∷ c ∷ w ∷ [])
  unfolding in_row
  object_same k c w {low} {high} e f =
      rw (e, f, least c)
      (go (leb 1 k && leb k most_kind) (leb c most_class) (leb (owner_least c) w) (leb w (owner_most counts c)))
    where
      go : (a b c d : Bool) → a && b && c && d ≡ a && (b && ((c && d) && true))
      go true true c d = sym (and-true (c && d))
      go true false c d = refl
      go false b c d = refl

  -- an entry by its object and mode, and then by its stored value
  module _ (kinds : List ℕ) (o mode w : ℕ) where
    abbrev pub named : Bool
    named = leb 1 o && leb o counts.objects && leb 1 mode && leb mode most_mode

    entry-same : in_row (entry_row counts kinds) (o ∷ mode ∷ w ∷ []) ≡ named && leb w (stored_most counts kinds o mode)
    unfolding in_row
    entry-same =
        rw (least w)
        (go (leb 1 o && leb o counts.objects) (leb 1 mode) (leb mode most_mode)
        (leb w (stored_most counts kinds o mode)))
      where
        go : (a b c d : Bool) → a && ((b && c) && (d && true)) ≡ a && b && c && d
        go true true true d = and-true d
        go true true false d = refl
        go true false c d = refl
        go false b c d = refl

    pub entry_none : named ≡ true → w ≡ 0 → true ≡ in_row (entry_row counts kinds) (o ∷ mode ∷ w ∷ [])
    entry_none h z =
        rw (entry-same, h) (sym (le-leb w (stored_most counts kinds o mode) (omega arith)))

    pub entry_stored : named ≡ true → {most : ℕ} → most ≡ stored_most counts kinds o mode
        → leb w most ≡ in_row (entry_row counts kinds) (o ∷ mode ∷ w ∷ [])
    entry_stored h e = rw (entry-same, h, e)

    pub entry_out : named ≡ false → false ≡ in_row (entry_row counts kinds) (o ∷ mode ∷ w ∷ [])
    entry_out h = rw (entry-same, h)

pub ruleset entry_tests = (entry_none, entry_stored, entry_out)

-- ---- a field of one byte
pub field_one : (s : List ℕ) (at low high b : ℕ) → at < length s → b ≡ get_or s at 0 → b < 128 → low ≤ b → b ≤ high
    → Value b (at + 1) ≡ field_at s at low high
field_one s at low high b h e small p q = field_value s at low high b (at + 1) (number_short s at h e small) p q

pub ruleset short_laws = (field_one, field_most)

-- these numbers stand at a place, a byte for each
abbrev pub Short : List ℕ → ℕ → List ℕ → Type 0
Short s at [] = Unit {0}
Short s at (v ∷ vs) = (at < length s) × (v ≡ get_or s at 0) × (v < 128) × Short s (at + 1) vs

-- a row in which every number is there
abbrev pub Full : Row → Type 0
Full done = Unit {0}
Full (field low high rest) = (v : ℕ) → Full (rest v)
Full (absent rest) = ⊥

pub row_short : {R : Type 0} (s : List ℕ) (halt : ℕ → R) (row : Row) → Full row → (vs : List ℕ) (at next : ℕ)
    (k : List ℕ → ℕ → R) → in_row row vs ≡ true → Short s at vs → next ≡ at + length vs
    → k vs next ≡ read_row s at row halt k
unfolding in_row on_field
row_short s halt done full [] at next k h w z = let e : next ≡ at = omega arith in rw e
row_short s halt done full (v ∷ vs) at next k h w z = absurd (false≢true h)
row_short s halt (field low high rest) full [] at next k h w z = absurd (false≢true h)
row_short s halt (field low high rest) full (v ∷ vs) at next k h w z =
    let p = row_head low high rest v vs h in
    rw (← field_one s at low high v w.0 w.1 w.2 p.0 p.1)
    (row_short s halt (rest v) (full v) vs (at + 1) next (λ vs next. k (v ∷ vs) next) p.2 w.3 (omega arith))
row_short s halt (absent rest) full vs at next k h w z = absurd full

-- three bytes, and what the largest owner and stored value are at most
short_three : (s : List ℕ) (at : ℕ) → at < length s - 2 → get_or s at 0 < 128 → get_or s (at + 1) 0 < 128
    → get_or s (at + 2) 0 < 128 → Short s at (get_or s at 0 ∷ get_or s (at + 1) 0 ∷ get_or s (at + 2) 0 ∷ [])
short_three s at h a b c =
    let two : at + 2 ≡ at + 1 + 1 = omega arith in
    (omega arith, refl, a, (omega arith, refl, b, (omega arith, ap (λ (i : ℕ). get_or s i 0) two, c, tt)))

owner-few : (counts : Counts) (c : ℕ) → Within counts → owner_most counts c < 128
unfolding owner_most
owner-few counts c h = go (eqb c 0) (eqb c 1) h.drivers h.devices
  where
    go : (a b : Bool) → counts.drivers ≤ most_drivers → counts.devices ≤ most_devices
        → cond a 0 (cond b counts.drivers counts.devices) < 128
    go true b p q = omega arith
    go false true p q = omega arith
    go false false p q = omega arith

stored-few : (counts : Counts) (kinds : List ℕ) (o mode : ℕ) → Within counts → stored_most counts kinds o mode < 128
unfolding stored_most
stored-few counts kinds o mode h = go (eqb (get_or kinds o 0) 1 && leb 2 mode) h.values
  where
    go : (b : Bool) → counts.values ≤ most_values → cond b counts.values 0 < 128
    go true p = omega arith
    go false p = omega arith

-- ---- what the quick tests let by is read as the model reads it
module _ (s : List ℕ) (counts : Counts) (within : Within counts) (at : ℕ) (h : at < length s - 2) where
  abbrev bytes : List ℕ
  bytes = get_or s at 0 ∷ get_or s (at + 1) 0 ∷ get_or s (at + 2) 0 ∷ []

  pub object_short : (o : ℕ) (t : Objects) → in_row (object_row counts) bytes ≡ true
      → progress (Ok (at + 3)) (object_of t o bytes) ≡ object s counts o at t
  unfolding object_to read
  object_short o t e =
      let k = row_head 1 most_kind _ (get_or s at 0) _ e in
      let c = row_head 0 most_class _ (get_or s (at + 1) 0) _ k.2 in
      let w = row_head (owner_least (get_or s (at + 1) 0)) (owner_most counts (get_or s (at + 1) 0)) _
      (get_or s (at + 2) 0) _ c.2 in
      let few = owner-few counts (get_or s (at + 1) 0) within in
      row_short s (stop t) (object_row counts) (λ _ _ _. tt) bytes at (at + 3)
      (λ vs next. read (object_of t o vs) next) e
      (short_three s at h (omega (arith, k.1)) (omega (arith, c.1)) (omega (arith, w.1, few))) refl

  pub entry_short : (kinds : List ℕ) (v j : ℕ) (t : Values) → get_or s at 0 < 128
      → in_row (entry_row counts kinds) bytes ≡ true
      → progress (Ok (at + 3)) (entry_of v t j bytes) ≡ entry s counts kinds v j at t
  unfolding entry_to read
  entry_short kinds v j t small e =
      let o = row_head 1 counts.objects _ (get_or s at 0) _ e in
      let mode = row_head 1 most_mode _ (get_or s (at + 1) 0) _ o.2 in
      let w = row_head 0 (stored_most counts kinds (get_or s at 0) (get_or s (at + 1) 0)) _ (get_or s (at + 2) 0) _
      mode.2 in
      let few = stored-few counts kinds (get_or s at 0) (get_or s (at + 1) 0) within in
      row_short s (stop t) (entry_row counts kinds) (λ _ _ _. tt) bytes at (at + 3)
      (λ vs next. read (entry_of v t j vs) next) e
      (short_three s at h small (omega (arith, mode.1)) (omega (arith, w.1, few))) refl

pub counts_short : (s : List ℕ) → 5 ≤ length s → get_or s 3 0 < 128
    → in_row counts_row (get_or s 0 0 ∷ get_or s 1 0 ∷ get_or s 2 0 ∷ get_or s 3 0 ∷ get_or s 4 0 ∷ []) ≡ true
    → Counted (counts_of (get_or s 0 0 ∷ get_or s 1 0 ∷ get_or s 2 0 ∷ get_or s 3 0 ∷ get_or s 4 0 ∷ [])) 5
    ≡ counts_at s
unfolding counts_to
counts_short s h small e =
    let a = row_head 1 most_edition _ (get_or s 0 0) _ e in
    let d = row_head 0 most_drivers _ (get_or s 1 0) _ a.2 in
    let v = row_head 0 most_devices _ (get_or s 2 0) _ d.2 in
    let n = row_head 0 most_objects _ (get_or s 3 0) _ v.2 in
    let k = row_head 0 most_values _ (get_or s 4 0) _ n.2 in
    row_short s Stopped counts_row (λ _ _ _ _ _. tt)
    (get_or s 0 0 ∷ get_or s 1 0 ∷ get_or s 2 0 ∷ get_or s 3 0 ∷ get_or s 4 0 ∷ []) 0 5
    (λ vs next. Counted (counts_of vs) next) e (
      omega arith,
      refl,
      omega (arith, a.1),
      (
        omega arith,
        refl,
        omega (arith, d.1),
        (
          omega arith,
          refl,
          omega (arith, v.1),
          (omega arith, refl, small, (omega arith, refl, omega (arith, k.1), tt)),
        ),
      ),
    )
    refl
