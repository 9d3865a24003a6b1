-- Laws of texts that are put down one after the other.
use Prim.Native.Nat.{ℕ, zero, suc, ◌+◌, ◌/◌, ◌%◌, ◌≤◌, ◌<◌, min}
use mathlib.Core.Path.{◌≡◌, refl, sym, ap, ◌∙◌, subst}
use mathlib.Core.List.{List, [], ◌∷◌, ◌++◌}
use native.Mathlib.Nat.{not-suc-le-zero, le_of_suc-le-suc}
use native.Mathlib.Decide.{dec_le}
use native.Mathlib.Omega.{arith}
use lib.ListN.{length, drop, set, length-append}
use Rattle.model.specs.Office.{digit, decimal}
use Rattle.model.proofs.OfficeLaws.{decimal_one, decimal_more}
use Rattle.page.specs.Page.{laid, reaches, Put, Placed}

-- nothing put down
pub laid_nil : (at : ℕ) (out : List ℕ) → laid [] at out ≡ out
unfolding laid
laid_nil at [] = refl
laid_nil at (o ∷ out) = refl

-- beyond the first byte
laid_suc : (t : List ℕ) (at o : ℕ) (out : List ℕ) → laid t (suc at) (o ∷ out) ≡ o ∷ laid t at out
unfolding laid
laid_suc [] at o out = sym (ap (λ (r : List ℕ). o ∷ r) (laid_nil at out))
laid_suc (b ∷ t) at o out = refl

pub length_laid : (t : List ℕ) (at : ℕ) (out : List ℕ) → length (laid t at out) ≡ length out
unfolding laid
length_laid t at [] = refl
length_laid [] at (o ∷ out) = refl
length_laid (b ∷ t) zero (o ∷ out) = ap suc (length_laid t zero out)
length_laid (b ∷ t) (suc at) (o ∷ out) = ap suc (length_laid (b ∷ t) at out)

-- no room
pub laid_full : (t : List ℕ) (at : ℕ) (out : List ℕ) → length out ≤ at → laid t at out ≡ out
unfolding laid
laid_full t at [] h = refl
laid_full [] at (o ∷ out) h = refl
laid_full (b ∷ t) zero (o ∷ out) h = absurd (not-suc-le-zero h)
laid_full (b ∷ t) (suc at) (o ∷ out) h = ap (λ (r : List ℕ). o ∷ r) (laid_full (b ∷ t) at out (le_of_suc-le-suc h))

-- a byte
pub laid_one : (b at : ℕ) (out : List ℕ) → at < length out → laid (b ∷ []) at out ≡ set out at b
unfolding laid
laid_one b at [] h = absurd (not-suc-le-zero h)
laid_one b zero (o ∷ out) h = ap (λ (r : List ℕ). b ∷ r) (laid_nil zero out)
laid_one b (suc at) (o ∷ out) h = ap (λ (r : List ℕ). o ∷ r) (laid_one b at out (le_of_suc-le-suc h))

-- what the check reads of a byte, where there is room for it and where there is none
pub ruleset one_byte = (laid_one, laid_full)

-- a place within the area
min_by : (u : List ℕ) (at : ℕ) (out : List ℕ) (k : ℕ) → k ≡ min at (length out) → Dec (at ≤ length out)
    → laid u k out ≡ laid u at out
min_by u at out k e (yes h) = ap (λ (j : ℕ). laid u j out) (omega arith)
min_by u at out k e (no h) = laid_full u k out (omega arith) ∙ sym (laid_full u at out (omega arith))

laid_min : (u : List ℕ) (at : ℕ) (out : List ℕ) (k : ℕ) → k ≡ min at (length out) → laid u k out ≡ laid u at out
laid_min u at out k e = min_by u at out k e (dec_le at (length out))

-- one text after the other is both
laid_then : (t u : List ℕ) (at : ℕ) (out : List ℕ) (k : ℕ) → k ≡ min (at + length t) (length out)
    → laid u k (laid t at out) ≡ laid (t ++ u) at out
unfolding laid
laid_then t u at [] k e = refl
laid_then [] u at (o ∷ out) k e = laid_min u at (o ∷ out) k (omega arith)
laid_then (b ∷ t) u zero (o ∷ out) k e =
    let j = min (0 + length t) (length out) in
    let p : k ≡ suc j = omega arith in
    ap (λ (i : ℕ). laid u i (b ∷ laid t 0 out)) p ∙ laid_suc u j b (laid t 0 out)
    ∙ ap (λ (r : List ℕ). b ∷ r) (laid_then t u zero out j refl)
laid_then (b ∷ t) u (suc at) (o ∷ out) k e =
    let j = min (at + length (b ∷ t)) (length out) in
    let p : k ≡ suc j = omega arith in
    ap (λ (i : ℕ). laid u i (o ∷ laid (b ∷ t) at out)) p ∙ laid_suc u j o (laid (b ∷ t) at out)
    ∙ ap (λ (r : List ℕ). o ∷ r) (laid_then (b ∷ t) u at out j refl)

-- one text right after the other is both
laid_on : (t u : List ℕ) (at : ℕ) (out : List ℕ) → laid u (at + length t) (laid t at out) ≡ laid (t ++ u) at out
laid_on t u at out =
    let k = min (at + length t) (length out) in
    let l : length (laid t at out) ≡ length out = length_laid t at out in
    sym (laid_min u (at + length t) (laid t at out) k (ap (min (at + length t)) (sym l))) ∙ laid_then t u at out k refl

-- the whole text, where there is room for it
pub laid-whole : (t out : List ℕ) → length t ≤ length out → laid t 0 out ≡ t ++ drop (length t) out
unfolding laid
laid-whole [] out h = laid_nil 0 out
laid-whole (b ∷ t) [] h = absurd (not-suc-le-zero h)
laid-whole (b ∷ t) (o ∷ out) h = ap (λ (r : List ℕ). b ∷ r) (laid-whole t out (le_of_suc-le-suc h))

-- texts with the place after all of each
module _ (at : ℕ) (out : List ℕ) where
  pub placed_nil : Placed [] at out at out
  placed_nil = (omega arith, sym (laid_nil at out))

  pub placed_then : (t u : List ℕ) {p q : ℕ} {out₁ out₂ : List ℕ} → Placed t at out p out₁ → Placed u p out₁ q out₂
      → Placed (t ++ u) at out q out₂
  placed_then t u {p} {q} {out₁} {out₂} h k = (
    omega (arith, h.0, k.0, length-append t u),
    k.1 ∙ ap (λ (j : ℕ). laid u j out₁) h.0 ∙ ap (laid u (at + length t)) h.1 ∙ laid_on t u at out,
  )

module _ (at : ℕ) (out : List ℕ) where
  pub then : (t u : List ℕ) {p q : ℕ} {out₁ out₂ : List ℕ} → Put t at out p out₁ → Put u p out₁ q out₂
      → Put (t ++ u) at out q out₂
  unfolding reaches
  then t u {p} {q} {out₁} {out₂} h k =
      let l : length out₁ ≡ length out = ap length h.1 ∙ length_laid t at out in
      let m = length-append t u in (
        omega (arith, h.0, k.0, l, m),
        k.1 ∙ ap (laid u p) h.1 ∙ laid_then t u at out p h.0,
      )

  -- nothing, at a place within the area
  pub put_nil : at ≤ length out → Put [] at out at out
  unfolding reaches
  put_nil h = (omega arith, sym (laid_nil at out))

  -- the place after a text is within the area
  pub put-within : (t : List ℕ) {r : ℕ} {out' : List ℕ} → Put t at out r out' → r ≤ length out'
  unfolding reaches
  put-within t {r} {out'} h =
      let l : length out' ≡ length out = ap length h.1 ∙ length_laid t at out in omega (arith, h.0, l)

  -- the area keeps its length
  pub put_same : (t : List ℕ) {r : ℕ} {out' : List ℕ} → Put t at out r out' → length out' ≡ length out
  put_same t h = ap length h.1 ∙ length_laid t at out

  -- a number: its last digit d, after the others where there are any
  module _ (n d : ℕ) (e : d ≡ digit (n % 10)) {r : ℕ} {out' : List ℕ} where
    pub put_digit : n < 10 → Put (d ∷ []) at out r out' → Put (decimal n) at out r out'
    put_digit h p =
        subst (λ (t : List ℕ). Put t at out r out') (ap (λ (x : ℕ). x ∷ []) e ∙ sym (decimal_one n h)) p

    pub put_digits : 10 ≤ n → {p : ℕ} {out₁ : List ℕ} → Put (decimal (n / 10)) at out p out₁
        → Put (d ∷ []) p out₁ r out' → Put (decimal n) at out r out'
    put_digits h q k =
        subst (λ (t : List ℕ). Put t at out r out')
        (ap (λ (x : ℕ). decimal (n / 10) ++ x ∷ []) e ∙ sym (decimal_more n h))
        (then (decimal (n / 10)) (d ∷ []) q k)
