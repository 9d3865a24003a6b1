-- Request N7, both ways: every range of a file of edition 1 ends below the limit that numbers had.
use Prim.Native.Nat.{ℕ, zero, suc, ◌<◌}
use mathlib.Core.Path.{◌≡◌, refl, sym, ap, ◌∙◌, subst}
use mathlib.Core.Logic.{◌⊎◌, inl, inr}
use mathlib.Core.List.{List, ◌∷◌}
use mathlib.Core.Bool.{Bool, true, false, cond, ◌&&◌, true≢false, false≢true}
use native.Mathlib.Omega.{arith}
use lib.Dec.{leb}
use borrow.Author.Tests.{leb-true}
use Rattle.model.specs.Number.{most_number, most_before, number_to, number_at}
use Rattle.model.specs.Config.{most_drivers, most_devices, most_objects, most_values}
use Rattle.model.specs.Config.{serial_edition, latest, first_limits}
use Rattle.model.specs.ConfigFile.{
  ranged,
  field_to,
  on_field,
  done,
  field,
  read_row_to,
  counts_of,
  counts_to,
  refused,
  after_counts,
  groups_to,
  load_to,
  load,
}
use Rattle.model.specs.declared.Fault.TheVariants.{Cut, Form}
use Rattle.model.specs.Num.{Num}
use Rattle.model.specs.Num.{Got, Bad}
use Rattle.model.specs.Field.{Value, No}
use Rattle.model.specs.Head.{Head}
use Rattle.model.specs.Head.{Counted, Stopped}
use Rattle.model.proofs.Lists.{and_r, not-true}
use Rattle.model.proofs.OldNumbers.{still_read, newly_read}
use Rattle.model.proofs.Accepted.{HeadTold, counts-told}
use Rattle.continuity.specs.Files.{Since, same, large, later, FilesSince, FirstEdition}
use Rattle.continuity.proofs.FileRanges.{
  Turned,
  OutHead,
  OutLoad,
  before,
  is_cut,
  is_cut_lem,
  row_turned,
  groups_turned,
}

-- the counts: their first number is the edition
module _ (s : List ℕ) where
  abbrev rest : ℕ → ℕ → ℕ → Head
  rest most edition a =
      read_row_to most s a (field 0 most_drivers λ d. field 0 most_devices λ v. field 0 most_objects λ n.
      field 0 most_values λ k. done) Stopped
      (λ vs next. Counted (counts_of (edition ∷ vs)) next)

  rest_turned : (edition a : ℕ) → Turned OutHead (rest most_before edition a) (rest most_number edition a)
  rest_turned edition a =
      let k : List ℕ → ℕ → Head = λ vs next. Counted (counts_of (edition ∷ vs)) next in
      row_turned most_before most_number (omega arith) s OutHead Stopped (λ q. refl)
      (field 0 most_drivers λ d. field 0 most_devices λ v. field 0 most_objects λ n. field 0 most_values λ k. done)
      (omega arith, λ d. (omega arith, λ v. (omega arith, λ n. (omega arith, λ k. tt)))) a k k
      (λ vs next. inl refl)

  -- the same, or an edition that there was not
  abbrev Here : Head → Head → Type 0
  Here h h' = Turned OutHead h h' ⊎ ((next : ℕ) × (number_at s 0 ≡ Got serial_edition next) × (h ≡ Stopped 3))

  edition_turned : (v next : ℕ) → number_at s 0 ≡ Got v next
      → Here (on_field Stopped (cond (leb 1 v && leb v 1) (Value v next) (No 3)) (rest most_before))
      (on_field Stopped (cond (leb 1 v && leb v 2) (Value v next) (No 3)) (rest most_number))
  unfolding on_field
  edition_turned zero next f = inl (inl refl)
  edition_turned (suc zero) next f = inl (rest_turned 1 next)
  edition_turned (suc (suc zero)) next f = inr (next, f, refl)
  edition_turned (suc (suc (suc v))) next f =
      let w = suc (suc (suc v)) in
      both (leb 1 w && leb w 1) (leb 1 w && leb w 2)
      (not-true (leb 1 w && leb w 1)
      (λ e. absurd (let x = leb-true w 1 (and_r (leb 1 w) (leb w 1) e) in omega (arith, x))))
      (not-true (leb 1 w && leb w 2)
      (λ e. absurd (let x = leb-true w 2 (and_r (leb 1 w) (leb w 2) e) in omega (arith, x))))
    where
      both : (t u : Bool) → t ≡ false → u ≡ false
          → Here (on_field Stopped (cond t (Value (suc (suc (suc v))) next) (No 3)) (rest most_before))
          (on_field Stopped (cond u (Value (suc (suc (suc v))) next) (No 3)) (rest most_number))
      both true u e f = absurd (true≢false e)
      both false true e f = absurd (true≢false f)
      both false false e f = inl (inl refl)

  large-edition : (v next : ℕ) → most_before < v
      → on_field Stopped (cond (leb 1 v && leb v 2) (Value v next) (No 3)) (rest most_number) ≡ Stopped 3
  unfolding on_field
  large-edition v next l =
      ap (λ (t : Bool). on_field Stopped (cond t (Value v next) (No 3)) (rest most_number))
      (not-true (leb 1 v && leb v 2)
      (λ e. absurd (let x = leb-true v 2 (and_r (leb 1 v) (leb v 2) e) in omega (arith, x, l))))

  counts_turned : Here (counts_to first_limits s) (counts_to latest s)
  unfolding counts_to field_to ranged on_field
  counts_turned = go (number_to most_before s 0) (number_to most_number s 0) refl refl
    where
      go : (n m : Num) → number_to most_before s 0 ≡ n → number_to most_number s 0 ≡ m
          → Here (on_field Stopped (ranged 1 1 n) (rest most_before))
          (on_field Stopped (ranged 1 2 m) (rest most_number))
      go (Got v next) m e f =
          let r = still_read most_before most_number (omega arith) s 0 v next e in
          subst (λ (x : Num). Here (on_field Stopped (ranged 1 1 (Got v next)) (rest most_before))
          (on_field Stopped (ranged 1 2 x) (rest most_number))) (sym r ∙ f) (edition_turned v next r)
      go (Bad Cut) (Bad Cut) e f = inl (inl refl)
      go (Bad Cut) (Bad Form) e f =
          absurd (true≢false (ap is_cut (sym e) ∙ (is_cut_lem most_before most_number s 0 ∙ ap is_cut f)))
      go (Bad Cut) (Got v next) e f =
          absurd (true≢false (ap is_cut (sym e) ∙ (is_cut_lem most_before most_number s 0 ∙ ap is_cut f)))
      go (Bad Form) (Bad Cut) e f =
          absurd (false≢true (ap is_cut (sym e) ∙ (is_cut_lem most_before most_number s 0 ∙ ap is_cut f)))
      go (Bad Form) (Bad Form) e f = inl (inl refl)
      go (Bad Form) (Got v next) e f =
          inl (inr (
            refl,
            large-edition v next (newly_read most_before most_number (omega arith) s 0 v next e f),
          ))

  load_turned : Turned OutLoad (load_to first_limits s) (load_to latest s)
      ⊎ ((next : ℕ) × (number_at s 0 ≡ Got serial_edition next) × ((load_to first_limits s).answer ≡ 3))
  unfolding load_to after_counts refused
  load_turned = go (counts_to first_limits s) (counts_to latest s) (counts-told first_limits s) counts_turned
    where
      on : (h : Head) → HeadTold first_limits h
          → Turned OutLoad (after_counts h (groups_to most_before s)) (after_counts h (groups_to most_number s))
      on (Counted n next) told =
          groups_turned most_before most_number (omega arith) s n (omega arith) told next
      on (Stopped q) told = inl refl

      go : (h h' : Head) → HeadTold first_limits h → Here h h'
          → Turned OutLoad (after_counts h (groups_to most_before s)) (after_counts h' (groups_to most_number s))
          ⊎ ((next : ℕ) × (number_at s 0 ≡ Got serial_edition next)
          × ((after_counts h (groups_to most_before s)).answer ≡ 3))
      go h h' told (inl (inl e)) =
          inl (before OutLoad (ap (λ (x : Head). after_counts x (groups_to most_number s)) e) (on h told))
      go h h' told (inl (inr (x, y))) =
          inl (inr (
            ap (λ (z : Head). (after_counts z (groups_to most_before s)).answer) x,
            ap (λ (z : Head). (after_counts z (groups_to most_number s)).answer) y,
          ))
      go h h' told (inr (next, f, e)) =
          inr (next, f, ap (λ (z : Head). (after_counts z (groups_to most_before s)).answer) e)

-- the theorem
pub files_since : FilesSince
files_since file = go (load_turned file)
  where
    go : Turned OutLoad (load_to first_limits file) (load file)
        ⊎ ((next : ℕ) × (number_at file 0 ≡ Got serial_edition next) × ((load_to first_limits file).answer ≡ 3))
        → Since file
    go (inl (inl e)) = same e
    go (inl (inr (x, y))) = large x y
    go (inr (next, f, e)) = later next f e

abbrev value_in : Num → ℕ
value_in (Got v next) = v
value_in (Bad f) = 0

pub first-edition : FirstEdition
first-edition file next f = go (files_since file)
  where
    go : Since file
        → (load file ≡ load_to first_limits file)
        ⊎ (((load_to first_limits file).answer ≡ 2) × ((load file).answer ≡ 3))
    go (same e) = inl e
    go (large x y) = inr (x, y)
    go (later n g e) = absurd (let z = ap value_in (sym f ∙ g) in omega (arith, z))
