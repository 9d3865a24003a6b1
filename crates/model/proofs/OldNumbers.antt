-- Request N7: what a number was with a smaller limit it is with a larger one. The largest is what three groups hold.
use Prim.Native.Nat.{ℕ, zero, suc, ◌+◌, ◌*◌, ◌%◌, ◌≤◌, ◌<◌}
use mathlib.Core.Path.{◌≡◌, refl, sym, ap, ◌∙◌}
use mathlib.Core.List.{List, [], ◌∷◌}
use mathlib.Core.Bool.{Bool, true, false, cond, ◌&&◌, true≢false, false≢true}
use native.Mathlib.Nat.{le_trans}
use native.Mathlib.Omega.{arith}
use native.Mathlib.Decide.{dec_le}
use lib.ListN.{length, drop}
use lib.Dec.{ltb, leb}
use borrow.Author.Tests.{leb-true, le-leb, ltb-true}
use Rattle.model.specs.Number.{
  most_number,
  most_before,
  most_bytes,
  lead,
  value_of,
  shortest,
  formed_to,
  form_to,
  head_to,
  number_to,
  number_at,
}
use Rattle.model.specs.declared.Fault.TheVariants.{Cut, Form}
use Rattle.model.specs.Num.{Num}
use Rattle.model.specs.Num.{Got, Bad}

abbrev is_got : Num → Bool
is_got (Got v next) = true
is_got (Bad f) = false

abbrev value_in : Num → ℕ
value_in (Got v next) = v
value_in (Bad f) = 0

-- a number by its three tests: it ends, it is short and in shortest form, it is within the limit
abbrev tested : ℕ → ℕ → Bool → Bool → Bool → Num
tested w m x a l = cond x (cond (a && l) (Got w m) (Bad Form)) (Bad Cut)

stays : (w m v next : ℕ) (x a l l' : Bool) → (l ≡ true → l' ≡ true) → tested w m x a l ≡ Got v next
    → tested w m x a l' ≡ Got v next
stays w m v next true true true true k h = h
stays w m v next true true true false k h = absurd (false≢true (k refl))
stays w m v next true true false l' k h = absurd (false≢true (ap is_got h))
stays w m v next true false l l' k h = h
stays w m v next false a l l' k h = h

above : (w m v next : ℕ) (x a l l' : Bool) → tested w m x a l ≡ Bad Form → tested w m x a l' ≡ Got v next
    → (l ≡ false) × (w ≡ v)
above w m v next true true true l' h k = absurd (true≢false (ap is_got h))
above w m v next true true false true h k = (refl, ap value_in k)
above w m v next true true false false h k = absurd (false≢true (ap is_got k))
above w m v next true false l l' h k = absurd (false≢true (ap is_got k))
above w m v next false a l l' h k = absurd (false≢true (ap is_got k))

module _ (few most : ℕ) (wider : few ≤ most) (s : List ℕ) (at v next : ℕ) where
  -- what was read is read the same
  pub still_read : number_to few s at ≡ Got v next → number_to most s at ≡ Got v next
  unfolding number_to head_to form_to formed_to
  still_read h =
      let t = drop at s in let n = lead t in
      stays (value_of t n) (at + n + 1) v next (ltb n (length t)) (ltb n most_bytes && shortest t n)
      (leb (value_of t n) few) (leb (value_of t n) most)
      (λ e. le-leb (value_of t n) most (le_trans (leb-true (value_of t n) few e) wider)) h

  -- what was refused by question 2 and is read now is above the smaller limit
  pub newly_read : number_to few s at ≡ Bad Form → number_to most s at ≡ Got v next → few < v
  unfolding number_to head_to form_to formed_to
  newly_read h k =
      let t = drop at s in let n = lead t in
      let q = above (value_of t n) (at + n + 1) v next (ltb n (length t)) (ltb n most_bytes && shortest t n)
      (leb (value_of t n) few) (leb (value_of t n) most) h k in
      go (value_of t n) q.0 q.1 (dec_le v few)
    where
      go : (w : ℕ) → leb w few ≡ false → w ≡ v → Dec (v ≤ few) → few < v
      go w l e (yes m) =
          let z : w ≤ few = omega (arith, e, m) in
          absurd (true≢false (sym (le-leb w few z) ∙ l))
      go w l e (no g) = omega arith

pub old_numbers : (s : List ℕ) (at v next : ℕ)
    → (number_to most_before s at ≡ Got v next → number_at s at ≡ Got v next)
    × (number_to most_before s at ≡ Bad Form → number_at s at ≡ Got v next → most_before < v)
old_numbers s at v next = (
  still_read most_before most_number (omega arith) s at v next,
  newly_read most_before most_number (omega arith) s at v next,
)

-- what n groups hold, and one more
abbrev groups : ℕ → ℕ
groups zero = 128
groups (suc n) = 128 * groups n

value-below : (t : List ℕ) → lead t < length t → value_of t (lead t) < groups (lead t)
unfolding lead value_of
value-below [] h = absurd (omega arith)
value-below (b ∷ t) h = go (ltb b 128) refl h (value-below t)
  where
    go : (c : Bool) → ltb b 128 ≡ c → cond c 0 (suc (lead t)) < suc (length t)
        → (lead t < length t → value_of t (lead t) < groups (lead t))
        → value_of (b ∷ t) (cond c 0 (suc (lead t))) < groups (cond c 0 (suc (lead t)))
    go true e h below = ltb-true b 128 e
    go false e h below =
        let w = below (omega arith) in
        let r : b % 128 < 128 = omega arith in
        omega arith

-- a number of at most three bytes is never too large
pub never_large : (t : List ℕ) → lead t < length t → lead t < most_bytes → value_of t (lead t) ≤ most_number
never_large t h few = go (lead t) few (value-below t h)
  where
    go : (n : ℕ) → n < most_bytes → value_of t n < groups n → value_of t n ≤ most_number
    go zero m w = omega arith
    go (suc zero) m w = omega arith
    go (suc (suc zero)) m w = omega arith
    go (suc (suc (suc n))) m w = absurd (omega arith)
