-- A number that was read has the bytes of its shortest form, and could be read with every limit that it is within.
use Prim.Native.Nat.{ℕ, zero, suc, ◌+◌, ◌%◌, ◌<◌, ◌≤◌}
use mathlib.Core.Path.{◌≡◌, refl, ap, ◌∙◌, subst}
use mathlib.Core.List.{List, [], ◌∷◌}
use mathlib.Core.Bool.{Bool, true, false, cond, ◌&&◌}
use native.Mathlib.Omega.{arith}
use lib.ListN.{length, drop}
use lib.Dec.{ltb, leb}
use borrow.Author.Tests.{lt-ltb, le-ltb, le-leb, ltb-true, ltb-false, leb-true}
use Rattle.model.specs.Number.{most_bytes, lead, value_of, shortest, formed_to, form_to, head_to, number_to, bytes_to}
use Rattle.model.specs.declared.Fault.TheVariants.{Cut, Form}
use Rattle.model.specs.Num.{Got, Bad}
use Rattle.model.proofs.Lists.{and_l, and_r}

-- what a number that was read tells of the bytes at the head
record Head (most at : ℕ) (t : List ℕ) (v next : ℕ) : Type 0 where
  inside : lead t < length t
  few : lead t < most_bytes
  short : shortest t (lead t) ≡ true
  size : value_of t (lead t) ≡ v
  within : v ≤ most
  after : at + lead t + 1 ≡ next

form_inv : (most at : ℕ) (t : List ℕ) (n v next : ℕ) (b : Bool) → formed_to most t n ≡ b
    → cond b (Got (value_of t n) (at + n + 1)) (Bad Form) ≡ Got v next
    → (n < most_bytes) × (shortest t n ≡ true) × (value_of t n ≡ v) × (at + n + 1 ≡ next) × (v ≤ most)
unfolding formed_to
form_inv most at t n v next true f e =
    let x : value_of t n ≡ v = cc in
    let y : at + n + 1 ≡ next = cc in
    let l = and_l (ltb n most_bytes && shortest t n) (leb (value_of t n) most) f in (
      ltb-true n most_bytes (and_l (ltb n most_bytes) (shortest t n) l),
      and_r (ltb n most_bytes) (shortest t n) l,
      x,
      y,
      omega (
        arith,
        x,
        leb-true (value_of t n) most (and_r (ltb n most_bytes && shortest t n) (leb (value_of t n) most) f),
      ),
    )
form_inv most at t n v next false f e = let z : ◌≡◌ {A = ℕ} 0 1 = cc in absurd (omega arith)

head_inv : (most at : ℕ) (t : List ℕ) {v next : ℕ} → head_to most at t ≡ Got v next → Head most at t v next
unfolding head_to form_to
head_inv most at t {v} {next} e = go (ltb (lead t) (length t)) refl e
  where
    go : (b : Bool) → ltb (lead t) (length t) ≡ b → cond b (form_to most at t (lead t)) (Bad Cut) ≡ Got v next
        → Head most at t v next
    go true h q =
        let r = form_inv most at t (lead t) v next (formed_to most t (lead t)) refl q in
        record {
          inside = ltb-true (lead t) (length t) h;
          few = r.0;
          short = r.1;
          size = r.2;
          within = r.4;
          after = r.3;
        }
    go false h q = let z : ◌≡◌ {A = ℕ} 0 1 = cc in absurd (omega arith)

lead_none : (b : ℕ) (t : List ℕ) → lead (b ∷ t) ≡ 0 → b < 128
unfolding lead
lead_none b t e = go (ltb b 128) refl e
  where
    go : (x : Bool) → ltb b 128 ≡ x → cond x 0 (suc (lead t)) ≡ 0 → b < 128
    go true h q = ltb-true b 128 h
    go false h q = absurd (omega arith)

lead_some : (b n : ℕ) (t : List ℕ) → lead (b ∷ t) ≡ suc n → (128 ≤ b) × (lead t ≡ n)
unfolding lead
lead_some b n t e = go (ltb b 128) refl e
  where
    go : (x : Bool) → ltb b 128 ≡ x → cond x 0 (suc (lead t)) ≡ suc n → (128 ≤ b) × (lead t ≡ n)
    go true h q = absurd (omega arith)
    go false h q = (ltb-false b 128 h, omega arith)

pub width_1 : (v : ℕ) → v < 128 → bytes_to v ≡ 1
width_1 v h = rw (lt-ltb v 128 h)

pub width_2 : (v : ℕ) → 128 ≤ v → v < 16384 → bytes_to v ≡ 2
width_2 v l h = rw (le-ltb v 128 l, lt-ltb v 16384 h)

pub width_3 : (v : ℕ) → 16384 ≤ v → bytes_to v ≡ 3
width_3 v l = rw (le-ltb v 128 (omega arith), le-ltb v 16384 l)

width : (t : List ℕ) (n v : ℕ) → lead t ≡ n → n < length t → n < most_bytes → shortest t n ≡ true → value_of t n ≡ v
    → bytes_to v ≡ suc n
unfolding value_of shortest
width [] n v l i k p e = absurd (omega arith)
width (b ∷ t) zero v l i k p e = width_1 v (subst (λ (x : ℕ). x < 128) e (lead_none b t l))
width (b ∷ []) (suc n) v l i k p e = absurd (omega arith)
width (b ∷ c ∷ t) (suc zero) v l i k p e =
    let h = lead_some b 0 (c ∷ t) l in
    let x = ltb-true 0 c p in
    let y = lead_none c t h.1 in
    let r : b % 128 < 128 = omega arith in
    width_2 v (omega arith) (omega arith)
width (b ∷ c ∷ []) (suc (suc n)) v l i k p e = absurd (omega arith)
width (b ∷ c ∷ d ∷ t) (suc (suc zero)) v l i k p e =
    let x = ltb-true 0 d p in
    width_3 v (omega arith)
width (b ∷ c ∷ d ∷ t) (suc (suc (suc n))) v l i k p e = absurd (omega arith)

again : (few at : ℕ) (t : List ℕ) (n v : ℕ) → lead t ≡ n → n < length t → n < most_bytes → shortest t n ≡ true
    → value_of t n ≡ v → v ≤ few → head_to few at t ≡ Got v (at + n + 1)
unfolding head_to form_to formed_to
again few at t n v l h k p e m = rw (l, lt-ltb n (length t) h, lt-ltb n most_bytes k, p, e, le-leb v few m)

module _ (few most : ℕ) (s : List ℕ) (at : ℕ) {v next : ℕ} (e : number_to most s at ≡ Got v next) where
  -- it has the bytes of its shortest form
  pub number_width : next ≡ at + bytes_to v
  unfolding number_to
  number_width =
      let h = head_inv most at (drop at s) e in
      let w = width (drop at s) (lead (drop at s)) v refl h.inside h.few h.short h.size in
      let a = h.after in
      let n = lead (drop at s) in
      omega (arith, w, a)

  pub number-high : v ≤ most
  unfolding number_to
  number-high = (head_inv most at (drop at s) e).within

  -- and is read with every limit that it is within
  pub number-within : v ≤ few → number_to few s at ≡ Got v next
  unfolding number_to
  number-within m =
      let h = head_inv most at (drop at s) e in
      again few at (drop at s) (lead (drop at s)) v refl h.inside h.few h.short h.size m
      ∙ ap (λ (n : ℕ). Got v n) h.after
