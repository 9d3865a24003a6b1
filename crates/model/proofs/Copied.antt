-- Columns into which some places of another column were copied, and what holds of the rows of all numbers if it holds
-- of each number's.
use Prim.Native.Nat.{ℕ, zero, suc, ◌+◌, ◌≤◌, ◌<◌}
use mathlib.Core.Path.{◌≡◌, refl, sym, ap, ◌∙◌, subst}
use mathlib.Core.Logic.{◌⊎◌, inl, inr}
use mathlib.Core.List.{List, [], ◌∷◌, ◌++◌, append_assoc, append-nil}
use mathlib.Core.Bool.{Bool, true, false, ◌||◌, false≢true, true≢false}
use native.Mathlib.Decide.{dec_le}
use native.Mathlib.Omega.{arith}
use lib.ListN.{length, get_or, set, replicate, length-set, length-replicate}
use lib.Seq.{get_or-set_same, get_or-set_other, ext_get_or}
use lib.Dec.{eqb}
use borrow.Author.Tests.{eqb-true, eqb-false}
use Rattle.model.specs.Base.{all, any}
use Rattle.model.specs.ConfigWrite.{rows_from, ZeroBut}
use Rattle.model.proofs.Lists.{and_l, and_r, both_true, or_left, or_right, bool_cases}
use Rattle.model.proofs.Rows.{steps}

-- rows of numbers
module _ {A : Type 0} where
  pub any_append : (q : A → Bool) (a b : List A) → any q (a ++ b) ≡ any q a || any q b
  any_append q [] b = refl
  any_append q (x ∷ a) b = ap (λ (t : Bool). q x || t) (any_append q a b) ∙ assoc (q x) (any q a) (any q b)
    where
      assoc : (r s t : Bool) → r || (s || t) ≡ (r || s) || t
      assoc true s t = refl
      assoc false s t = refl

  pub all_join : (p : A → Bool) (a b : List A) → all p a ≡ true → all p b ≡ true → all p (a ++ b) ≡ true
  all_join p [] b h k = k
  all_join p (x ∷ a) b h k = both_true (and_l (p x) (all p a) h) (all_join p a b (and_r (p x) (all p a) h) k)

  all_first : (p : A → Bool) (a b : List A) → all p (a ++ b) ≡ true → all p a ≡ true
  all_first p [] b h = refl
  all_first p (x ∷ a) b h =
      both_true (and_l (p x) (all p (a ++ b)) h) (all_first p a b (and_r (p x) (all p (a ++ b)) h))

  all-last : (p : A → Bool) (a b : List A) → all p (a ++ b) ≡ true → all p b ≡ true
  all-last p [] b h = h
  all-last p (x ∷ a) b h = all-last p a b (and_r (p x) (all p (a ++ b)) h)

  pub rows-any : (q : A → Bool) (g : ℕ → List A) (n i k : ℕ) → i < k → k ≤ i + n → any q (g k) ≡ true
      → any q (rows_from g n i) ≡ true
  unfolding rows_from
  rows-any q g zero i k low high h = absurd (omega arith)
  rows-any q g (suc n) i k low high h =
      any_append q (g (i + 1)) (rows_from g n (i + 1))
      ∙ go (dec_le k (i + 1)) (λ (gt : i + 1 < k). rows-any q g n (i + 1) k gt (omega arith) h)
    where
      go : Dec (k ≤ i + 1) → (i + 1 < k → any q (rows_from g n (i + 1)) ≡ true)
          → any q (g (i + 1)) || any q (rows_from g n (i + 1)) ≡ true
      go (yes le) r =
          or_left _ _ (subst (λ (j : ℕ). any q (g j) ≡ true) (omega arith) h)
      go (no gt) r = or_right (any q (g (i + 1))) _ (r (omega arith))

  pub rows_all : (p : A → Bool) (g : ℕ → List A) (n i : ℕ) → all p (rows_from g n i) ≡ true → (k : ℕ) → i < k
      → k ≤ i + n → all p (g k) ≡ true
  unfolding rows_from
  rows_all p g zero i h k low high = absurd (omega arith)
  rows_all p g (suc n) i h k low high =
      go (dec_le k (i + 1))
      (λ (gt : i + 1 < k). rows_all p g n (i + 1) (all-last p (g (i + 1)) (rows_from g n (i + 1)) h) k gt (omega arith))
    where
      go : Dec (k ≤ i + 1) → (i + 1 < k → all p (g k) ≡ true) → all p (g k) ≡ true
      go (yes le) r =
          subst (λ (j : ℕ). all p (g j) ≡ true) (omega arith) (all_first p (g (i + 1)) (rows_from g n (i + 1)) h)
      go (no gt) r = r (omega arith)

  pub all-rows : (p : A → Bool) (g : ℕ → List A) (n i : ℕ) → ((k : ℕ) → i < k → k ≤ i + n → all p (g k) ≡ true)
      → all p (rows_from g n i) ≡ true
  unfolding rows_from
  all-rows p g zero i h = refl
  all-rows p g (suc n) i h =
      all_join p (g (i + 1)) (rows_from g n (i + 1)) (h (i + 1) (omega arith) (omega arith))
      (all-rows p g n (i + 1) (λ k low high. h k (omega arith) (omega arith)))

  -- one number more, as a loop adds it
  pub rows_more : (g : ℕ → List A) (n i : ℕ) → rows_from g (suc n) i ≡ rows_from g n i ++ g (i + suc n)
  unfolding rows_from
  rows_more g zero i = append-nil (g (i + 1))
  rows_more g (suc n) i =
      let e : i + 1 + suc n ≡ i + suc (suc n) = omega arith in
      ap (λ (l : List A). g (i + 1) ++ l) (rows_more g n (i + 1) ∙ ap (λ (k : ℕ). rows_from g n (i + 1) ++ g k) e)
      ∙ sym (append_assoc (g (i + 1)) (rows_from g n (i + 1)) (g (i + suc (suc n))))

  pub rows_same : (g h : ℕ → List A) (n i : ℕ) → ((k : ℕ) → i < k → k ≤ i + n → g k ≡ h k)
      → rows_from g n i ≡ rows_from h n i
  unfolding rows_from
  rows_same g h zero i e = refl
  rows_same g h (suc n) i e =
      let p = e (i + 1) (omega arith) (omega arith) in
      let q = rows_same g h n (i + 1) (λ k low high. e k (omega arith) (omega arith)) in
      λ x. p x ++ q x

-- the places of a list of places, copied in order
unfoldable pub copy_at : List ℕ → List ℕ → List ℕ → List ℕ
copy_at src [] l = l
copy_at src (p ∷ ps) l = copy_at src ps (set l p (get_or src p 0))

module _ (src : List ℕ) where
  pub copy_append : (ps qs l : List ℕ) → copy_at src (ps ++ qs) l ≡ copy_at src qs (copy_at src ps l)
  unfolding copy_at
  copy_append [] qs l = refl
  copy_append (p ∷ ps) qs l = copy_append ps qs (set l p (get_or src p 0))

  pub copy_length : (ps l : List ℕ) → length (copy_at src ps l) ≡ length l
  unfolding copy_at
  copy_length [] l = refl
  copy_length (p ∷ ps) l = copy_length ps (set l p (get_or src p 0)) ∙ length-set l p (get_or src p 0)

  or_false : (a b : Bool) → a || b ≡ false → (a ≡ false) × (b ≡ false)
  or_false true b h = absurd (true≢false h)
  or_false false b h = (refl, h)

  pub copy_out : (ps l : List ℕ) (k : ℕ) → any (eqb k) ps ≡ false → get_or (copy_at src ps l) k 0 ≡ get_or l k 0
  unfolding copy_at
  copy_out [] l k h = refl
  copy_out (p ∷ ps) l k h =
      let (a, b) = or_false (eqb k p) (any (eqb k) ps) h in
      copy_out ps (set l p (get_or src p 0)) k b ∙ get_or-set_other l p k (get_or src p 0) 0 (eqb-false k p a)

  pub copy_in : (ps l : List ℕ) (k : ℕ) → k < length l → any (eqb k) ps ≡ true
      → get_or (copy_at src ps l) k 0 ≡ get_or src k 0
  unfolding copy_at
  copy_in [] l k less h = absurd (false≢true h)
  copy_in (p ∷ ps) l k less h =
      go (any (eqb k) ps) refl h
      (λ (e : any (eqb k) ps ≡ true).
      copy_in ps (set l p (get_or src p 0)) k (omega (arith, length-set l p (get_or src p 0))) e)
    where
      go : (t : Bool) → any (eqb k) ps ≡ t → eqb k p || t ≡ true
          → (any (eqb k) ps ≡ true → get_or (copy_at src ps (set l p (get_or src p 0))) k 0 ≡ get_or src k 0)
          → get_or (copy_at src ps (set l p (get_or src p 0))) k 0 ≡ get_or src k 0
      go true e q r = r e
      go false e q r =
          let s : k ≡ p = eqb-true k p (left (eqb k p) q) in
          copy_out ps (set l p (get_or src p 0)) k e
          ∙ (ap (λ (j : ℕ). get_or (set l p (get_or src p 0)) j 0) s
          ∙ (get_or-set_same l p (get_or src p 0) 0 (omega arith) ∙ ap (λ (j : ℕ). get_or src j 0) (sym s)))
        where
          left : (t : Bool) → t || false ≡ true → t ≡ true
          left true h = refl
          left false h = h

  -- a column with nothing but the places that are copied
  pub copied_zeros : (n : ℕ) (ps : List ℕ) → ZeroBut n ps (copy_at src ps (replicate n 0))
  copied_zeros n ps = record {
    size = copy_length ps (replicate n 0) ∙ length-replicate n 0;
    zeros = λ p h. copy_out ps (replicate n 0) p h ∙ zeros n p;
  }
    where
      zeros : (n p : ℕ) → get_or {A = ℕ} (replicate n 0) p 0 ≡ 0
      zeros zero p = refl
      zeros (suc n) zero = refl
      zeros (suc n) (suc p) = zeros n p

  pub copied_all : (n : ℕ) (ps : List ℕ) → ZeroBut n ps src → copy_at src ps (replicate n 0) ≡ src
  copied_all n ps z =
      ext_get_or 0 (copy_at src ps (replicate n 0)) src ((copied_zeros n ps).size ∙ sym z.size) λ p less.
      go p (omega (arith, (copied_zeros n ps).size)) (bool_cases (any (eqb p) ps))
    where
      go : (p : ℕ) → p < n → (any (eqb p) ps ≡ true) ⊎ (any (eqb p) ps ≡ false)
          → get_or (copy_at src ps (replicate n 0)) p 0 ≡ get_or src p 0
      go p less (inl h) = copy_in ps (replicate n 0) p (omega (arith, length-replicate {A = ℕ} n 0)) h
      go p less (inr h) = (copied_zeros n ps).zeros p h ∙ sym (z.zeros p h)

-- tables whose columns are copied step by step
module _ {T : Type 0} (π : T → List ℕ) (step : ℕ → T → T) where
  pub steps_copy : (src : List ℕ) (g : ℕ → List ℕ) → ((o : ℕ) (t : T) → π (step o t) ≡ copy_at src (g o) (π t))
      → (n i : ℕ) (t : T) → π (steps step n i t) ≡ copy_at src (rows_from g n i) (π t)
  unfolding steps rows_from copy_at
  steps_copy src g h zero i t = refl
  steps_copy src g h (suc n) i t =
      steps_copy src g h n (i + 1) (step (i + 1) t)
      ∙ (ap (copy_at src (rows_from g n (i + 1))) (h (i + 1) t)
      ∙ sym (copy_append src (g (i + 1)) (rows_from g n (i + 1)) (π t)))

  pub steps_keep : ((o : ℕ) (t : T) → π (step o t) ≡ π t) → (n i : ℕ) (t : T) → π (steps step n i t) ≡ π t
  unfolding steps
  steps_keep h zero i t = refl
  steps_keep h (suc n) i t = steps_keep h n (i + 1) (step (i + 1) t) ∙ h (i + 1) t
