-- What `all` over a range of numbers answers: whether every number from 1 to n passes, or every number below n.
use Prim.Native.Nat.{ℕ, zero, suc, ◌+◌, ◌-◌, ◌≤◌, ◌<◌}
use native.Mathlib.Omega.{arith}
use native.Mathlib.Decide.{ℕ_discrete}
use mathlib.Core.Path.{◌≡◌, refl, sym, ap, subst, ◌∙◌}
use mathlib.Core.Bool.{Bool, true, false, true≢false, ◌&&◌}
use mathlib.Core.List.{List}
use lib.ListN.{length, get_or}
use denote.Param.Members.{Mut}
use Rattle.std.specs.Prelude.{Option}
use Rattle.std.specs.declared.ops.Range.{Range}
use Rattle.std.specs.Iterator.{YieldsThen}
use Rattle.std.specs.List.{FoldsTo, range_with_len, AllWithin, HoldsAt}
use Rattle.std.specs.Fn.{Called}
use Rattle.std.specs.Option.{MatchOption}
use Rattle.std.specs.Bool.{MatchBool}
use Rattle.std.proofs.iter.Yields.{nat_range_steps}
use Rattle.std.proofs.lemmas.Iterator.{cases_from_all, YieldsList-from_range}
use Rattle.std.proofs.lemmas.List.FromFn.{length-range_with_len, get_or-range_with_len}
use Rattle.model.specs.Base.{every, below}

and_true : (a b : Bool) → true ≡ a → true ≡ b → true ≡ (a && b)
and_true true true p q = refl
and_true true false p q = q
and_true false b p q = p

and_false_l : (a b : Bool) → false ≡ a → false ≡ (a && b)
and_false_l false b p = refl
and_false_l true b p = absurd (true≢false (sym p))

and_false_r : (a b : Bool) → false ≡ b → false ≡ (a && b)
and_false_r false b p = refl
and_false_r true b p = p

every_yes : (n : ℕ) (p : ℕ → Bool) → ((x : ℕ) → 1 ≤ x → x ≤ n → true ≡ p x) → true ≡ every n p
every_yes zero p h = refl
every_yes (suc n) p h =
    and_true _ _ (every_yes n p (λ x l m. h x l (omega (arith, m)))) (h (suc n) (omega arith) (omega arith))

every_no : (n : ℕ) (p : ℕ → Bool) (x : ℕ) → 1 ≤ x → x ≤ n → false ≡ p x → false ≡ every n p
every_no zero p x l m h = absurd (omega (arith, l, m))
every_no (suc n) p x l m h = go (ℕ_discrete x (suc n)) (λ k. every_no n p x l k h)
  where
    go : Dec (x ≡ suc n) → (x ≤ n → false ≡ every n p) → false ≡ every (suc n) p
    go (yes e) k = and_false_r (every n p) _ (h ∙ ap p e)
    go (no e) k = and_false_l _ _ (k (omega (arith, m, e)))

below_yes : (n : ℕ) (p : ℕ → Bool) → ((x : ℕ) → x < n → true ≡ p x) → true ≡ below n p
below_yes zero p h = refl
below_yes (suc n) p h = and_true _ _ (below_yes n p (λ x l. h x (omega (arith, l)))) (h n (omega arith))

below_no : (n : ℕ) (p : ℕ → Bool) (x : ℕ) → x < n → false ≡ p x → false ≡ below n p
below_no zero p x l h = absurd (omega (arith, l))
below_no (suc n) p x l h = go (ℕ_discrete x n) (λ k. below_no n p x k h)
  where
    go : Dec (x ≡ n) → (x < n → false ≡ below n p) → false ≡ below (suc n) p
    go (yes e) k = and_false_r (below n p) _ (h ∙ ap p e)
    go (no e) k = and_false_l _ _ (k (omega (arith, l, e)))

-- a number of the range from a on, and how long the range is
at : (a n k d : ℕ) → k < n → get_or (range_with_len a n) k d ≡ a + k
at = get_or-range_with_len

-- each number of a range, or one, as `all` tells it
unfoldable Told : (Yes No : ℕ → Type 0) (xs : List ℕ) → Bool → Type 0
Told Yes No xs r = MatchBool r (AllWithin Yes xs 0 (length xs)) ((k : ℕ) × (k < length xs) × HoldsAt No xs k)

module _ (n : ℕ) (p : ℕ → Bool) where
  told_every : (r : Bool) → Told (λ x. 1 ≤ x → x ≤ n → true ≡ p x) (λ x. 1 ≤ x → x ≤ n → false ≡ p x)
      (range_with_len 1 n) r
      → r ≡ every n p
  unfolding Told
  told_every true h = every_yes n p λ x l m.
      let e : 1 + (x - 1) ≡ x = omega (arith, l) in
      let k : x - 1 < length (range_with_len 1 n) = omega (arith, l, m, length-range_with_len 1 n) in
      subst (λ x. 1 ≤ x → x ≤ n → true ≡ p x) (at 1 n (x - 1) 0 (omega (arith, l, m)) ∙ e)
      (h (x - 1) 0 (omega arith) k) l m
  told_every false h =
      let l : h.0 < n = omega (arith, h.1, length-range_with_len 1 n) in
      every_no n p (1 + h.0) (omega arith) (omega (arith, l))
      (subst (λ x. 1 ≤ x → x ≤ n → false ≡ p x) (at 1 n h.0 0 l) (h.2 0) (omega arith) (omega (arith, l)))

  told_below : (r : Bool) → Told (λ x. x < n → true ≡ p x) (λ x. x < n → false ≡ p x) (range_with_len 0 n) r
      → r ≡ below n p
  unfolding Told
  told_below true h = below_yes n p λ x l.
      let k : x < length (range_with_len 0 n) = omega (arith, l, length-range_with_len 0 n) in
      subst (λ x. x < n → true ≡ p x) (at 0 n x 0 l ∙ omega arith) (h x 0 (omega arith) k) l
  told_below false h =
      let l : h.0 < n = omega (arith, h.1, length-range_with_len 0 n) in
      below_no n p h.0 l (subst (λ x. x < n → false ≡ p x) (at 0 n h.0 0 l ∙ omega arith) (h.2 0) l)

module _ {F : Type 0} {g : Mut F (ℕ × Unit {0}) Bool} {s : Range ℕ}
    (n : ℕ) (p : ℕ → Bool) (u : Range ℕ) (f : F) (r : Bool) where
  -- `(1..n + 1).all(f)`: every number from 1 to n passes
  pub every_from_all : s ≡ record { start = 1; end = n + 1 }
      → (xs : List ℕ) × (o : Option ℕ) × (j : F)
      × YieldsThen nat_range_steps s xs o u
      × FoldsTo (λ h x q. Called g h (x, tt) true q) f xs j
      × MatchOption o (r ≡ true) (λ x. (r ≡ false) × ((h : F) × Called g j (x, tt) false h))
      → ((x : ℕ) (b : Bool) (q : F) → Called g f (x, tt) b q → (q ≡ f) × (1 ≤ x → x ≤ n → b ≡ p x))
      → r ≡ every n p
  unfolding Told
  every_from_all e d k =
      told_every n p r
      (cases_from_all u f r (λ x. 1 ≤ x → x ≤ n → true ≡ p x) (λ x. 1 ≤ x → x ≤ n → false ≡ p x) d
      (YieldsList-from_range 1 (n + 1) n e (omega arith))
      (λ x q c. k x true q c)
      (λ x q c. (k x false q c).1))

  -- `(0..n).all(f)`: every number below n passes
  pub below_from_all : s ≡ record { start = 0; end = n }
      → (xs : List ℕ) × (o : Option ℕ) × (j : F)
      × YieldsThen nat_range_steps s xs o u
      × FoldsTo (λ h x q. Called g h (x, tt) true q) f xs j
      × MatchOption o (r ≡ true) (λ x. (r ≡ false) × ((h : F) × Called g j (x, tt) false h))
      → ((x : ℕ) (b : Bool) (q : F) → Called g f (x, tt) b q → (q ≡ f) × (x < n → b ≡ p x))
      → r ≡ below n p
  unfolding Told
  below_from_all e d k =
      told_below n p r
      (cases_from_all u f r (λ x. x < n → true ≡ p x) (λ x. x < n → false ≡ p x) d
      (YieldsList-from_range 0 n n e (omega arith))
      (λ x q c. k x true q c)
      (λ x q c. (k x false q c).1))
