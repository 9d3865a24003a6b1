-- Laws of `lead` in the words of a search over a list, and of `number_at` by cases.
-- Assumes nothing.
use Prim.Native.Nat.{ℕ, zero, suc, ◌+◌, ◌-◌, ◌*◌, ◌%◌, ◌<◌, ◌≤◌, min}
use mathlib.Core.Path.{◌≡◌, refl, sym, ap, ◌∙◌}
use native.Mathlib.Numerals.{add-one}
use Rattle.std.specs.Prelude.{Option, Some, None, IsSome}
use Rattle.std.proofs.lemmas.Option.{none-some, MatchOption-at_some}
use native.Mathlib.Decide.{dec_le}
use mathlib.Core.List.{List, [], ◌∷◌}
use mathlib.Core.Bool.{Bool, true, false, cond, false≢true, ◌&&◌, ◌||◌}
use lib.Dec.{ltb, eqb, leb, leb-suc-suc}
use lib.ListN.{length, get_or, take, drop, length-take, length-drop}
use lib.Seq.{drop-cons, take_all}
use borrow.Author.Tests.{lt-ltb, le-ltb, le-leb, ltb-true, ltb-false, eq-eqb, ne_eqb}
use native.Mathlib.Omega.{arith}
use denote.Ref.{Bor}
use Rattle.std.specs.Option.{MatchOption}
use Rattle.std.specs.List.{list_any, slice_range, position_or_len}
use Rattle.std.proofs.lemmas.List.Recursion.{is_position_or_len}
use Rattle.model.specs.declared.Fault.TheVariants.{Cut, Form}
use Rattle.model.specs.Num.{Got, Bad}
use Rattle.model.specs.Number.{
  most_number,
  most_bytes,
  lead,
  value_of,
  shortest,
  formed,
  formed_to,
  form_at,
  form_to,
  head_to,
  number_at,
  number_to,
}
use Rattle.varint.specs.Lead.{IsNearLead}
use Rattle.model.proofs.OldNumbers.{never_large}

-- ---- the place of the last byte
any_step : (a x : Bool) (l n : ℕ) → x ≡ ltb l n → (a || x) ≡ ltb (cond a 0 (suc l)) (suc n)
any_step true x l n e = sym (lt-ltb 0 (suc n) (omega arith))
any_step false x l n e = e ∙ sym (leb-suc-suc (suc l) n)

pub lead_any : (t : List ℕ) → list_any (λ b. ltb b 128) t ≡ ltb (lead t) (length t)
unfolding lead
lead_any [] = refl
lead_any (b ∷ t) = any_step (ltb b 128) _ _ _ (lead_any t)

lead_position : (t : List ℕ) → lead t ≡ position_or_len (λ b. ltb b 128) t
unfolding lead
lead_position = is_position_or_len lead (λ b. ltb b 128) refl
    (λ x xs. let e : suc (lead xs) ≡ 1 + lead xs = omega arith in ap (cond (ltb x 128) 0) e)

min_step : (a : Bool) (k l l' : ℕ) → l ≡ min k l' → cond a 0 (suc l) ≡ min (suc k) (cond a 0 (suc l'))
min_step true k l l' e = omega arith
min_step false k l l' e = omega arith

lead-take : (k : ℕ) (t : List ℕ) → lead (take k t) ≡ min k (lead t)
unfolding lead
lead-take zero t = omega arith
lead-take (suc k) [] = omega arith
lead-take (suc k) (b ∷ t) = min_step (ltb b 128) k _ _ (lead-take k t)

pub lead-last : (s : List ℕ) (i : ℕ) → i < length s → get_or s i 0 < 128 → lead (drop i s) ≡ 0
unfolding lead
lead-last s i h b = rw (drop-cons s i 0 h, lt-ltb (get_or s i 0) 128 b)

-- ---- the value at a place of s
module _ (s : List ℕ) (at : ℕ) (h : at < length s) where
  pub value-last : value_of (drop at s) 0 ≡ get_or s at 0
  unfolding value_of
  value-last = rw (drop-cons s at 0 h)

  pub value_more : (n : ℕ) → value_of (drop at s) (suc n) ≡ get_or s at 0 % 128 + 128 * value_of (drop (at + 1) s) n
  unfolding value_of
  value_more n = rw (add-one, drop-cons s at 0 h)

-- ---- the form of a number with n bytes before its last
or_true : (b : Bool) → b || true ≡ true
or_true true = refl
or_true false = refl

and_false : (few small : Bool) → (few && false && small) ≡ false
and_false true small = refl
and_false false small = refl

module _ (t : List ℕ) (n : ℕ) where
  shortest_one : n ≤ 0 → shortest t n ≡ true
  unfolding shortest
  shortest_one h = rw (eq-eqb n 0 (omega arith))

  shortest_more : (get_or t n 0 ≡ 0 → ⊥) → shortest t n ≡ true
  unfolding shortest
  shortest_more h = rw (lt-ltb 0 (get_or t n 0) (omega arith)) (or_true (eqb n 0))

  formed-long : most_bytes ≤ n → formed t n ≡ false
  unfolding formed_to
  formed-long h = rw (le-ltb n most_bytes h)

  formed_padded : 0 < n → get_or t n 0 ≡ 0 → formed t n ≡ false
  unfolding formed_to shortest
  formed_padded h z =
      rw (ne_eqb n 0 (omega arith), z) (and_false (ltb n most_bytes) (leb (value_of t n) most_number))

  formed-right : n ≡ lead t → n < length t → n < most_bytes → shortest t n ≡ true → formed t n ≡ true
  unfolding formed_to
  formed-right e h few p =
      let small : value_of t n ≤ most_number = rw e (never_large t (rw (← e) h) (rw (← e) few)) in
      rw (lt-ltb n most_bytes few, p, le-leb (value_of t n) most_number small)

-- ---- what is got of s from a place on
pub rest_some : (s : List ℕ) (at : ℕ) {o : Option (Bor (List ℕ))} {t : Bor (List ℕ)} (P : Type 0) → o ≡ Some t
    → MatchOption o P (λ x. (at ≤ length s) × (length s ≤ length s) × (x.now ≡ slice_range s at (length s))
    × (length x.now + at ≡ length s))
    → t.now ≡ drop at s
rest_some s at P e g =
    (MatchOption-at_some _ _ _ e g).2 ∙ take_all (length s - at) (drop at s) (omega (arith, length-drop at s))

past : {A : Type 0} (at n : ℕ) (r : Option A) → r ≡ None → (at ≤ n × n ≤ n → IsSome r) → Dec (at ≤ n) → n < at
past at n None z k (yes h) = absurd (false≢true (k (h, omega arith)))
past at n None z k (no h) = omega arith
past at n (Some x) z k d = absurd (none-some x (sym z))

pub rest_none : {A : Type 0} (at n : ℕ) (r : Option A) → r ≡ None → (at ≤ n × n ≤ n → IsSome r) → n < at
rest_none at n r z k = past at n r z k (dec_le at n)

-- ---- the number at a place of s, whose bytes from there on are t
module _ (s : List ℕ) (at : ℕ) (t : List ℕ) (w : t ≡ drop at s) where
  pub number_cut : length t ≤ lead t → Bad Cut ≡ number_at s at
  unfolding head_to number_to
  number_cut h = rw (← w, le-ltb (lead t) (length t) h)

  pub number_past : length s < at → Bad Cut ≡ number_at s at
  number_past h =
      let e : length t ≡ 0 = omega (arith, ap length w, length-drop at s) in
      number_cut (omega arith)

  number_form : lead t < length t → number_at s at ≡ form_at at t (lead t)
  unfolding head_to number_to
  number_form h = rw (← w, lt-ltb (lead t) (length t) h)

  pub number-long : lead t < length t → most_bytes ≤ lead t → Bad Form ≡ number_at s at
  unfolding form_to
  number-long h l = rw (number_form h, formed-long t (lead t) l)

  module _ (n : ℕ) (e : n ≡ lead t) (h : n < length t) where
    pub number_padded : 0 < n → get_or t n 0 ≡ 0 → Bad Form ≡ number_at s at
    unfolding form_to
    number_padded p z = rw (number_form (rw (← e) h), ← e, formed_padded t n p z)

    pub number_got : n < most_bytes → shortest t n ≡ true → {v next : ℕ} → v ≡ value_of t n → next ≡ at + n + 1
        → Got v next ≡ number_at s at
    unfolding form_to
    number_got few p v k = rw (number_form (rw (← e) h), ← e, formed-right t n e h few p, v, k)

    -- a last byte that is not 0, or the only one
    pub number_more : n < most_bytes → (get_or t n 0 ≡ 0 → ⊥) → {v next : ℕ} → v ≡ value_of t n → next ≡ at + n + 1
        → Got v next ≡ number_at s at
    number_more few p = number_got few (shortest_more t n p)

    pub number_one : n ≤ 0 → {v next : ℕ} → v ≡ value_of t n → next ≡ at + n + 1 → Got v next ≡ number_at s at
    number_one p = number_got (omega arith) (shortest_one t n p)

-- ---- the first bytes searched for the last one
module _ (t : List ℕ) where
  near_by : (b : Bool) (k : ℕ) → b ≡ ltb k (min most_bytes (length t)) → k ≡ min most_bytes (lead t)
      → {r : Option ℕ} → r ≡ cond b (Some k) None → IsNearLead r t
  near_by true k h e p = rw p (
    omega (arith, e, ltb-true _ _ (sym h)),
    omega (arith, e, ltb-true _ _ (sym h)),
    omega (arith, e, ltb-true _ _ (sym h)),
  )
  near_by false k h e p = rw p (λ l. omega (arith, e, l, ltb-false _ _ (sym h)))

  pub near : {r : Option ℕ}
      → r ≡ cond (ltb (position_or_len (λ b. ltb b 128) (take most_bytes t)) (length (take most_bytes t)))
      (Some (position_or_len (λ b. ltb b 128) (take most_bytes t))) None
      → IsNearLead r t
  near p = near_by _ _ (rw length-take) (sym (lead_position (take most_bytes t)) ∙ lead-take most_bytes t) p

-- ---- a number of one byte
pub number_short : (s : List ℕ) (at : ℕ) {b : ℕ} → at < length s → b ≡ get_or s at 0 → b < 128
    → Got b (at + 1) ≡ number_at s at
number_short s at {b} h e small =
    let l : lead (drop at s) ≡ 0 = lead-last s at h (rw (← e) small) in
    number_one s at (drop at s) refl 0 (sym l) (simp length-drop (omega arith)) (omega arith)
    (e ∙ sym (value-last s at h)) (omega arith)

-- ---- what the check reads where a place is past the end
pub ruleset no_rest = (number_past, rest_none)
