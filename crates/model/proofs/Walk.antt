-- Request N3: what the walk over the object records yields, and question 9 by it.
use Prim.Native.Nat.{ℕ, zero, suc, ◌≤◌}
use mathlib.Core.Path.{◌≡◌, refl, sym, ap, ◌∙◌}
use mathlib.Core.Logic.{◌↔◌}
use mathlib.Core.Bool.{Bool, true, false, ◌&&◌, true≢false}
use native.Mathlib.Decide.{dec_le}
use native.Mathlib.Omega.{arith}
use lib.Dec.{eqb}
use borrow.Author.Tests.{eqb-true, eq-eqb, ne_eqb}
use Rattle.model.specs.Base.{every}
use Rattle.model.specs.State.{State, right_object, well_formed, head_formed, found_or, first_bad}
use Rattle.model.specs.declared.Config.{Config}
use Rattle.model.proofs.Lists.{every_at, every_intro}

module _ (config : Config) (b : State) where
  abbrev right : ℕ → Bool
  right n = right_object config b n

  -- the walk finds nothing exactly if every record is right
  walk_every : (room : ℕ) → every room right ≡ eqb (first_bad room config b) 0
  unfolding first_bad
  walk_every zero = refl
  walk_every (suc n) = go (first_bad n config b) (every n right) (right (suc n)) (walk_every n)
    where
      go : (f : ℕ) (t r : Bool) → t ≡ eqb f 0 → (t && r) ≡ eqb (found_or f r (suc n)) 0
      go zero true true e = refl
      go zero true false e = sym (ne_eqb (suc n) 0 (λ h. omega arith))
      go zero false r e = absurd (true≢false (sym (e ∙ eq-eqb 0 0 refl)))
      go (suc f) true r e = absurd (true≢false (e ∙ ne_eqb (suc f) 0 (λ h. omega arith)))
      go (suc f) false r e = sym (ne_eqb (suc f) 0 (λ h. omega arith))

  -- every record up to number k keeps the rules
  abbrev RightUpTo : ℕ → Type 0
  RightUpTo k = (n : ℕ) → 1 ≤ n → n ≤ k → right_object config b n ≡ true

  -- record k + 1 is in the room and breaks one, and every smaller one keeps them all
  abbrev FirstBadAt : ℕ → ℕ → Type 0
  FirstBadAt room k = (suc k ≤ room) × (right_object config b (suc k) ≡ false) × RightUpTo k

  walk_none : (room : ℕ) → (first_bad room config b ≡ 0) ↔ RightUpTo room
  walk_none room = (
    (λ e. every_at room right (walk_every room ∙ eq-eqb (first_bad room config b) 0 e)),
    λ h. eqb-true (first_bad room config b) 0 (sym (walk_every room) ∙ every_intro room right h),
  )

  walk_place : (room k : ℕ) → first_bad room config b ≡ suc k → FirstBadAt room k
  unfolding first_bad
  walk_place zero k e = absurd (omega arith)
  walk_place (suc m) k e = go (first_bad m config b) (right (suc m)) refl refl e (walk_place m k)
    where
      go : (f : ℕ) (r : Bool) → first_bad m config b ≡ f → right (suc m) ≡ r → found_or f r (suc m) ≡ suc k
          → (first_bad m config b ≡ suc k → FirstBadAt m k) → FirstBadAt (suc m) k
      go zero true h t e before = absurd (omega arith)
      go zero false h t e before =
          let s : m ≡ k = omega arith in (
            omega arith,
            ap (λ (j : ℕ). right (suc j)) (sym s) ∙ t,
            λ n low high. (walk_none m).0 h n low (omega (arith, s, high)),
          )
      go (suc f) r h t e before =
          let q = before (h ∙ e) in (omega (arith, q.0), q.1, q.2)

  -- the walk yields 0 exactly if every record of the room keeps the rules; and if it yields k + 1, then that record is
  -- in the room and breaks one, and every smaller one keeps them all
  pub first_bad_lem : (room : ℕ)
      → ((first_bad room config b ≡ 0) ↔ ((n : ℕ) → 1 ≤ n → n ≤ room → right_object config b n ≡ true))
      × ((k : ℕ) → first_bad room config b ≡ suc k
      → (suc k ≤ room) × (right_object config b (suc k) ≡ false)
      × ((n : ℕ) → 1 ≤ n → n ≤ k → right_object config b n ≡ true))
  first_bad_lem room = (walk_none room, walk_place room)

  -- so a walk may stop there: what more of the room it had yet to see changes nothing
  pub first_bad_stays : (n room : ℕ) → n ≤ room → (k : ℕ) → first_bad n config b ≡ suc k
      → first_bad room config b ≡ suc k
  unfolding first_bad
  first_bad_stays zero room l k e = absurd (omega arith)
  first_bad_stays (suc n) zero l k e = absurd (omega arith)
  first_bad_stays (suc n) (suc room) l k e =
      go (dec_le (suc n) room) (λ m. first_bad_stays (suc n) room m k e)
    where
      go : Dec (suc n ≤ room) → (suc n ≤ room → first_bad room config b ≡ suc k)
          → found_or (first_bad room config b) (right (suc room)) (suc room) ≡ suc k
      go (yes m) before = ap (λ (f : ℕ). found_or f (right (suc room)) (suc room)) (before m)
      go (no m) before = ap (λ (j : ℕ). first_bad (suc j) config b) same ∙ e
        where
          same : room ≡ n
          same = omega arith

-- question 9 is the rules of the head, and a walk that finds nothing
pub formed_walk : (room : ℕ) (config : Config) (b : State)
    → well_formed room config b ≡ (head_formed config b && eqb (first_bad room config b) 0)
unfolding well_formed head_formed
formed_walk room config b = ap (λ (t : Bool). head_formed config b && t) (walk_every config b room)
