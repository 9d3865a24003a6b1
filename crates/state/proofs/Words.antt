-- Sixteen bytes as one number, the first the lowest: what it says of single bytes.
use Prim.Native.Nat.{ℕ, zero, suc, ◌+◌, ◌-◌, ◌*◌, ◌^◌, ◌≤◌, ◌<◌}
use mathlib.Core.Path.{◌≡◌, refl, sym, ap, ◌∙◌}
use mathlib.Core.List.{List, [], ◌∷◌}
use mathlib.Core.Bool.{true, ◌&&◌, true≢false}
use native.Mathlib.Decide.{dec_le}
use native.Mathlib.Omega.{arith}
use lib.ListN.{length, get_or, replicate}
use lib.Seq.{ext_get_or, get_or-take, get_or-drop}
use lib.Dec.{leb, eqb}
use borrow.Author.Tests.{leb-true, eqb-true, le-leb, eq-eqb}
use Rattle.std.specs.Int.{w128, byte_worth, sum_through, from_le_bytes}
use Rattle.model.specs.State.{content_bytes, value_bytes, same_bytes}
use Rattle.model.proofs.Lists.{and_l, and_r, both_true}
use Rattle.state.specs.Splice.{part}
use Rattle.state.specs.Formed.{is_value, is_value_to}
use Rattle.state.proofs.Forms.{same_test}

-- lists of bytes that are the same
same_eq : (x y : List ℕ) → same_bytes x y ≡ true → x ≡ y
same_eq [] [] h = refl
same_eq [] (b ∷ y) h = absurd (true≢false (sym h))
same_eq (a ∷ x) [] h = absurd (true≢false (sym h))
same_eq (a ∷ x) (b ∷ y) h =
    λ i. eqb-true a b (and_l (eqb a b) (same_bytes x y) h) i ∷ same_eq x y (and_r (eqb a b) (same_bytes x y) h) i

same_on : (x : List ℕ) → same_bytes x x ≡ true
same_on [] = refl
same_on (a ∷ x) = rw (eq-eqb a a refl) (same_on x)

pub zero_at : (k i : ℕ) → get_or {A = ℕ} (replicate k 0) i 0 ≡ 0
zero_at zero i = refl
zero_at (suc k) zero = refl
zero_at (suc k) (suc i) = zero_at k i

-- what a byte is worth
large : (k : ℕ) → 256 ≤ 256 ^ suc k
large zero = omega arith
large (suc k) = omega (arith, large k)

none : (x y : ℕ) → 256 ≤ y → x * y < 256 → x ≡ 0
none zero y l h = refl
none (suc x) y l h = absurd (omega arith)

-- the number of the first k + 1 bytes
module _ (c : List ℕ) where
  unfoldable first_of : ℕ → ℕ
  first_of k = sum_through (λ i. byte_worth i (get_or c i 0)) k

  -- if it is below 256, all of them but the first are 0
  alone : (k : ℕ) → first_of k < 256 → (j : ℕ) → 1 ≤ j → j ≤ k → get_or c j 0 ≡ 0
  unfolding first_of
  alone zero h j l u = absurd (omega arith)
  alone (suc k) h j l u = go (dec_le j k) (λ (q : j ≤ k). alone k (omega arith) j l q)
    where
      go : Dec (j ≤ k) → (j ≤ k → get_or c j 0 ≡ 0) → get_or c j 0 ≡ 0
      go (yes q) f = f q
      go (no q) f =
          let e : j ≡ suc k = omega arith in
          ap (λ (i : ℕ). get_or c i 0) e ∙ none (get_or c (suc k) 0) (256 ^ suc k) (large k) (omega arith)

  -- and then it is the first
  sole : (k : ℕ) → ((j : ℕ) → 1 ≤ j → j ≤ k → get_or c j 0 ≡ 0) → first_of k ≡ get_or c 0 0
  unfolding first_of
  sole zero z = refl
  sole (suc k) z =
      let e : first_of k ≡ get_or c 0 0 = sole k (λ j l u. z j l (omega arith)) in
      rw (z (suc k) (omega arith) (omega arith)) (omega arith)

  low : (k : ℕ) → first_of k < 256 → first_of k ≡ get_or c 0 0
  low k h = sole k (alone k h)

  abbrev whole : ℕ
  whole = first_of (content_bytes - 1)

  number : from_le_bytes w128 c ≡ whole
  unfolding first_of
  number = refl

  module _ (l : length c ≡ content_bytes) where
    value_on : (v : ℕ) → v < 256 → whole ≡ v → c ≡ value_bytes v
    value_on v u e = ext_get_or 0 c (value_bytes v) l here
      where
        small : whole < 256
        small = omega arith

        here : (k : ℕ) → k < length c → get_or c k 0 ≡ get_or (value_bytes v) k 0
        here zero h = sym (low (content_bytes - 1) small) ∙ e
        here (suc k) h =
            alone (content_bytes - 1) small (suc k) (omega arith) (omega arith)
            ∙ sym (zero_at (content_bytes - 1) k)

    value_back : (v : ℕ) → c ≡ value_bytes v → whole ≡ v
    value_back v e =
        sole (content_bytes - 1) (λ j a b. ap (λ (x : List ℕ). get_or x j 0) e ∙ behind j a)
        ∙ ap (λ (x : List ℕ). get_or x 0 0) e
      where
        behind : (j : ℕ) → 1 ≤ j → get_or (value_bytes v) j 0 ≡ 0
        behind zero a = absurd (omega arith)
        behind (suc j) a = zero_at (content_bytes - 1) j

    pub sixteen-value : (v w u : ℕ) → v < 256 → w ≡ from_le_bytes w128 c → u ≡ v → eqb w u ≡ is_value c v
    unfolding is_value
    sixteen-value v w u s e f =
        same_test (eqb w u) (same_bytes c (value_bytes v))
        (λ t.
        let q : c ≡ value_bytes v = value_on v s (sym number ∙ (sym e ∙ (eqb-true w u t ∙ f))) in
        rw q (same_on (value_bytes v)))
        (λ t. eq-eqb w u (e ∙ (number ∙ (value_back v (same_eq c (value_bytes v) t) ∙ sym f))))

    pub sixteen-value_to : (most w u : ℕ) → most < 256 → w ≡ from_le_bytes w128 c → u ≡ most
        → leb w u ≡ is_value_to c most
    unfolding is_value_to is_value
    sixteen-value_to most w u s e f =
        same_test (leb w u) (leb (get_or c 0 0) most && same_bytes c (value_bytes (get_or c 0 0)))
        (λ t.
        let small : whole < 256 = omega (arith, leb-true w u t, number) in
        let q : whole ≡ get_or c 0 0 = low (content_bytes - 1) small in
        let r : c ≡ value_bytes (get_or c 0 0) = value_on (get_or c 0 0) (omega arith) q in
        both_true (le-leb (get_or c 0 0) most (omega (arith, leb-true w u t, number)))
        (ap (same_bytes c) (sym r) ∙ same_on c))
        (λ t.
        let a : get_or c 0 0 ≤ most =
        leb-true (get_or c 0 0) most
        (and_l (leb (get_or c 0 0) most) (same_bytes c (value_bytes (get_or c 0 0))) t) in
        let q : whole ≡ get_or c 0 0 =
        value_back (get_or c 0 0) (same_eq c (value_bytes (get_or c 0 0))
        (and_r (leb (get_or c 0 0) most) (same_bytes c (value_bytes (get_or c 0 0))) t)) in
        le-leb w u (omega (arith, number)))

byte : (s : List ℕ) (at k : ℕ) → k < content_bytes → get_or (part s at content_bytes) k 0 ≡ get_or s (at + k) 0
unfolding part
byte s at k h = rw (get_or-take, get_or-drop)

-- sixteen bytes are 0 if their number is
pub number_zero : (s : List ℕ) (at : ℕ) → from_le_bytes w128 (part s at content_bytes) ≡ 0 → (k : ℕ) → k < content_bytes
    → get_or s (at + k) 0 ≡ 0
number_zero s at z k h = sym (byte s at k h) ∙ here k h
  where
    c : List ℕ
    c = part s at content_bytes

    small : whole c < 256
    small = omega (arith, number c)

    here : (k : ℕ) → k < content_bytes → get_or c k 0 ≡ 0
    here zero h = sym (low c (content_bytes - 1) small) ∙ (sym (number c) ∙ z)
    here (suc k) h = alone c (content_bytes - 1) small (suc k) (omega arith) (omega arith)
