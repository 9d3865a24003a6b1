-- The digits of words: or, and, powers of two, the low sixteen, and the lowest that is set.
use Prim.Native.Nat.{ℕ, zero, suc, ◌+◌, ◌-◌, ◌*◌, ◌/◌, ◌%◌, ◌^◌, ◌≤◌, ◌<◌, max, min}
use native.Mathlib.Nat.{
  not-suc-le-zero,
  add-zero,
  zero-lt-suc,
  mod-lt,
  div-one,
  div-div-eq-div-mul,
  div-lt_iff_lt-mul,
  pow-suc,
  pow-succ',
  zero-add,
  add_comm,
  suc-add,
  one-mul,
  mod-eq_of_lt,
  lt_of_le_of_lt,
}
use native.Mathlib.Omega.{arith}
use native.Mathlib.Decide.{ℕ_discrete}
use mathlib.Core.Path.{◌≡◌, refl, sym, ap, ap₂, subst, ◌∙◌}
use mathlib.Core.Logic.{◌⊎◌, inl, inr, ⊎_elim, by_cases}
use lib.Arith.{digits_div, digits_mod, mod-mul}
use lib.Bits.{
  bit_or,
  bit_and,
  bit_xor,
  differ,
  or_step,
  and_step,
  xor_step,
  or_add_and,
  xor_add_and,
  and_le_r,
  and_mask,
}
use lib.Count.{count_trailing_zeros, under}
use lib.Pow.{pow_pos, shl_exact, shr_le}
use Rattle.scene.specs.Digits.{bit, Next, Cleared, Without}

pub bit_two : (n k : ℕ) → bit n k < 2
unfolding bit
bit_two n zero = mod-lt n (zero-lt-suc 1)
bit_two n (suc k) = bit_two (n / 2) k

pub bit_zero : (k : ℕ) → bit 0 k ≡ 1 → ⊥
unfolding bit
bit_zero zero e = omega arith
bit_zero (suc k) e = bit_zero k e

module _ (op f : ℕ → ℕ → ℕ) (step : (a b : ℕ) → op a b ≡ op (a / 2) (b / 2) * 2 + f (a % 2) (b % 2))
    (small : (x y : ℕ) → x < 2 → y < 2 → f x y < 2) where
  op_bit : (a b k : ℕ) → bit (op a b) k ≡ f (bit a k) (bit b k)
  unfolding bit
  op_bit a b zero = ap (λ (x : ℕ). x % 2) (step a b)
      ∙ digits_mod (op (a / 2) (b / 2)) (small (a % 2) (b % 2) (bit_two a 0) (bit_two b 0))
  op_bit a b (suc k) =
      ap (λ (x : ℕ). bit (x / 2) k) (step a b)
      ∙ ap (λ (x : ℕ). bit x k) (digits_div (op (a / 2) (b / 2)) (small (a % 2) (b % 2) (bit_two a 0) (bit_two b 0)))
      ∙ op_bit (a / 2) (b / 2) k

max_two : (x y : ℕ) → x < 2 → y < 2 → max x y < 2
max_two x y h k = omega arith

or_bit : (a b k : ℕ) → bit (bit_or a b) k ≡ max (bit a k) (bit b k)
or_bit = op_bit bit_or max or_step max_two

pub or_left : (a b k : ℕ) → bit a k ≡ 1 → bit (bit_or a b) k ≡ 1
or_left a b k e = or_bit a b k ∙ omega (arith, bit_two b k)

pub or_right : (a b k : ℕ) → bit b k ≡ 1 → bit (bit_or a b) k ≡ 1
or_right a b k e = or_bit a b k ∙ omega (arith, bit_two a k)

pub or_out : (a b k : ℕ) → bit (bit_or a b) k ≡ 1 → (bit a k ≡ 1) ⊎ (bit b k ≡ 1)
or_out a b k e = by_cases (ℕ_discrete (bit a k) 1) inl (λ n. inr (omega (arith, sym (or_bit a b k) ∙ e, bit_two a k)))

-- what is within another word
pub or_within : (a b k : ℕ) → bit_or b a ≡ b → bit a k ≡ 1 → bit b k ≡ 1
or_within a b k e h = subst (λ (x : ℕ). bit x k ≡ 1) e (or_right b a k h)

pub or_grows : (a b : ℕ) → a ≤ bit_or a b
or_grows a b = omega (arith, or_add_and a b, and_le_r a b)

half_pow : (j : ℕ) → 2 ^ suc j / 2 ≡ 2 ^ j
half_pow j = ap (λ (x : ℕ). x / 2) (pow-suc 2 j) ∙ omega arith

even_pow : (j : ℕ) → 2 ^ suc j % 2 ≡ 0
even_pow j = ap (λ (x : ℕ). x % 2) (pow-suc 2 j) ∙ omega arith

pub pow_bit : (j : ℕ) → bit (2 ^ j) j ≡ 1
unfolding bit
pow_bit zero = refl
pow_bit (suc j) = ap (λ (x : ℕ). bit x j) (half_pow j) ∙ pow_bit j

pub pow_only : (j k : ℕ) → bit (2 ^ j) k ≡ 1 → k ≡ j
unfolding bit
pow_only zero zero e = refl
pow_only zero (suc k) e = absurd (bit_zero k e)
pow_only (suc j) zero e = absurd (omega (arith, even_pow j, e))
pow_only (suc j) (suc k) e = ap suc (pow_only j k (subst (λ (x : ℕ). bit x k ≡ 1) (half_pow j) e))

half_mod : (n j : ℕ) → n % 2 ^ suc j ≡ (n / 2 % 2 ^ j) * 2 + n % 2
half_mod n j = ap (λ (x : ℕ). n % x) (pow-suc 2 j) ∙ mod-mul n (pow_pos j) (zero-lt-suc 1)

pub mod_bit : (n j k : ℕ) → bit (n % 2 ^ j) k ≡ 1 → (k < j) × (bit n k ≡ 1)
unfolding bit
mod_bit n zero k e = absurd (bit_zero k (subst (λ (x : ℕ). bit x k ≡ 1) (omega arith) e))
mod_bit n (suc j) zero e = (omega arith, omega (arith, half_mod n j, e))
mod_bit n (suc j) (suc k) e =
    let r = mod_bit (n / 2) j k (subst (λ (x : ℕ). bit x k ≡ 1) (omega (arith, half_mod n j)) e) in
    (omega (arith, r.0), r.1)

pub bit_mod : (n j k : ℕ) → k < j → bit n k ≡ 1 → bit (n % 2 ^ j) k ≡ 1
unfolding bit
bit_mod n zero k h e = absurd (not-suc-le-zero h)
bit_mod n (suc j) zero h e = omega (arith, half_mod n j, e)
bit_mod n (suc j) (suc k) h e =
    let q : n % 2 ^ suc j / 2 ≡ n / 2 % 2 ^ j = omega (arith, half_mod n j) in
    subst (λ (x : ℕ). bit x k ≡ 1) (sym q) (bit_mod (n / 2) j k (omega arith) e)

pub shift_bit : (n j k : ℕ) → bit (n / 2 ^ j) k ≡ bit n (j + k)
unfolding bit
shift_bit n zero k = ap₂ bit (div-one n) (sym (zero-add k))
shift_bit n (suc j) k =
    ap (λ (x : ℕ). bit x k) (ap (λ (x : ℕ). n / x) (pow-succ' 2 j) ∙ sym (div-div-eq-div-mul n 2 (2 ^ j)))
    ∙ shift_bit (n / 2) j k ∙ ap (bit n) (sym (suc-add j k))

pub bit_at : (n j : ℕ) → n / 2 ^ j % 2 ≡ bit n j
unfolding bit
bit_at n j = shift_bit n j 0 ∙ ap (bit n) (add-zero j)

tz_clear : (d n k : ℕ) → k < count_trailing_zeros d n → bit n k ≡ 1 → ⊥
unfolding bit count_trailing_zeros
tz_clear zero n k h e = not-suc-le-zero h
tz_clear (suc d) n k h e = go k (n % 2) refl (tz_clear d (n / 2)) h e
  where
    go : (k r : ℕ) → n % 2 ≡ r → ((k : ℕ) → k < count_trailing_zeros d (n / 2) → bit (n / 2) k ≡ 1 → ⊥)
        → k < under r (count_trailing_zeros d (n / 2)) → bit n k ≡ 1 → ⊥
    go zero zero q f h e = omega (arith, q, e)
    go (suc k) zero q f h e = f k (omega arith) e
    go k (suc r) q f h e = not-suc-le-zero h

tz_set : (d n : ℕ) → 0 < n → n < 2 ^ d → bit n (count_trailing_zeros d n) ≡ 1
unfolding bit count_trailing_zeros
tz_set zero n h l = absurd (omega arith)
tz_set (suc d) n h l =
    go (n % 2) refl (λ p. tz_set d (n / 2) p
    ((div-lt_iff_lt-mul (zero-lt-suc 1)).1 (subst (λ (x : ℕ). n < x) (pow-suc 2 d) l)))
  where
    go : (r : ℕ) → n % 2 ≡ r → (0 < n / 2 → bit (n / 2) (count_trailing_zeros d (n / 2)) ≡ 1)
        → bit n (under r (count_trailing_zeros d (n / 2))) ≡ 1
    go zero q f = f (omega arith)
    go (suc r) q f = omega (arith, q, mod-lt n (zero-lt-suc 1))

-- a word that is not 0 has a digit
pub some_bit : (d n : ℕ) → (n ≡ 0 → ⊥) → n < 2 ^ d → (k : ℕ) × (bit n k ≡ 1)
some_bit d n h l = (count_trailing_zeros d n, tz_set d n (omega arith) l)

pub bit_below : (n d k : ℕ) → n < 2 ^ d → bit n k ≡ 1 → k < d
bit_below n d k h e = (mod_bit n d k (subst (λ (x : ℕ). bit x k ≡ 1) (sym (mod-eq_of_lt h)) e)).0

-- the search for the lowest digit
at_shift : (w from k : ℕ) → from ≤ k → bit w k ≡ 1 → bit (w / 2 ^ from) (k - from) ≡ 1
at_shift w from k h e =
    let q : from + (k - from) ≡ k = omega arith in
    shift_bit w from (k - from) ∙ ap (bit w) q ∙ e

pub next_none : (w from : ℕ) → from ≤ 64 → w / 2 ^ from ≡ 0 → Next w from 64
next_none w from h z =
    record {
      low = h;
      high = omega arith;
      clear = λ k p q e. bit_zero (k - from) (subst (λ (x : ℕ). bit x (k - from) ≡ 1) z (at_shift w from k p e));
      is_set = λ q. absurd (omega arith);
    }

pub next_some : (w from : ℕ) → w < 2 ^ 64 → (w / 2 ^ from ≡ 0 → ⊥)
    → Next w from (from + count_trailing_zeros 64 (w / 2 ^ from))
next_some w from h z =
    let s = w / 2 ^ from in
    let e : bit w (from + count_trailing_zeros 64 s) ≡ 1 = sym (shift_bit w from (count_trailing_zeros 64 s))
    ∙ tz_set 64 s (omega arith) (lt_of_le_of_lt (shr_le w from) h) in
    let l : from + count_trailing_zeros 64 s < 64 = bit_below w 64 _ h e in
    record {
      low = omega arith;
      high = omega arith;
      clear = λ k p q f. tz_clear 64 s (k - from) (omega arith) (at_shift w from k p f);
      is_set = λ q. e;
    }

pub next_fits : (w from : ℕ) → w < 2 ^ 64 → (w / 2 ^ from ≡ 0 → ⊥) → from + count_trailing_zeros 64 (w / 2 ^ from) ≤ 64
next_fits w from h z = (next_some w from h z).high

pub shl_one : (k : ℕ) → k < 64 → (1 * 2 ^ k) % 2 ^ 64 ≡ 2 ^ k
shl_one k h = shl_exact 1 k 64 (omega arith) (omega arith) ∙ one-mul (2 ^ k)

-- the digits of the largest word
pub full_bit : (d k : ℕ) → k < d → bit (2 ^ d - 1) k ≡ 1
unfolding bit
full_bit zero k h = absurd (not-suc-le-zero h)
full_bit (suc d) zero h = omega (arith, pow-suc 2 d, pow_pos d)
full_bit (suc d) (suc k) h =
    let e : (2 ^ suc d - 1) / 2 ≡ 2 ^ d - 1 = omega (arith, pow-suc 2 d, pow_pos d) in
    ap (λ (x : ℕ). bit x k) e ∙ full_bit d k (omega arith)

-- the digits in which two words differ
differ_two : (x y : ℕ) → x < 2 → y < 2 → differ x y < 2
differ_two zero y h k = k
differ_two (suc zero) zero h k = omega arith
differ_two (suc zero) (suc y) h k = omega arith
differ_two (suc (suc x)) y h k = absurd (omega arith)

differ_none : (x : ℕ) → differ x 0 ≡ x
differ_none zero = refl
differ_none (suc x) = refl

xor_bit : (a b k : ℕ) → bit (bit_xor a b) k ≡ differ (bit a k) (bit b k)
xor_bit = op_bit bit_xor differ xor_step differ_two

xor_in : (a b k : ℕ) → bit a k ≡ 1 → bit b k ≡ 0 → bit (bit_xor a b) k ≡ 1
xor_in a b k e z = xor_bit a b k ∙ ap₂ differ e z

xor_out : (a b k : ℕ) → bit (bit_xor a b) k ≡ 1 → bit b k ≡ 0 → bit a k ≡ 1
xor_out a b k e z = sym (differ_none (bit a k)) ∙ ap (differ (bit a k)) (sym z) ∙ sym (xor_bit a b k) ∙ e

xor_both : (a b k : ℕ) → bit a k ≡ 1 → bit b k ≡ 1 → bit (bit_xor a b) k ≡ 1 → ⊥
xor_both a b k e f h =
    let z : bit (bit_xor a b) k ≡ 0 = xor_bit a b k ∙ ap₂ differ e f in
    omega arith

digit : (n k : ℕ) → (bit n k ≡ 1) ⊎ (bit n k ≡ 0)
digit n k = by_cases (ℕ_discrete (bit n k) 1) inl (λ h. inr (omega (arith, bit_two n k)))

-- the digits that two words share
min_two : (x y : ℕ) → x < 2 → y < 2 → min x y < 2
min_two x y h k = omega arith

and_bit : (a b k : ℕ) → bit (bit_and a b) k ≡ min (bit a k) (bit b k)
and_bit = op_bit bit_and min and_step min_two

-- the digits that a word lacks
flip_bit : (d b k : ℕ) → b < 2 ^ d → k < d → bit (2 ^ d - 1 - b) k ≡ 1 - bit b k
unfolding bit
flip_bit zero b k l h = absurd (not-suc-le-zero h)
flip_bit (suc d) b zero l h = omega (arith, pow-suc 2 d)
flip_bit (suc d) b (suc k) l h =
    let e : (2 ^ suc d - 1 - b) / 2 ≡ 2 ^ d - 1 - b / 2 = omega (arith, pow-suc 2 d) in
    ap (λ (x : ℕ). bit x k) e ∙ flip_bit d (b / 2) k (omega (arith, pow-suc 2 d)) (omega arith)

pub without_of : (a b : ℕ) → a < 2 ^ 64 → b < 2 ^ 64 → Without a b (bit_and a (2 ^ 64 - 1 - b))
without_of a b la lb =
    record {
      here = λ k e. omega (arith, and_bit a (2 ^ 64 - 1 - b) k, bit_two a k);
      other = λ k e h.
          (let here : bit a k ≡ 1 = omega (arith, and_bit a (2 ^ 64 - 1 - b) k, bit_two a k) in
          omega (arith, and_bit a (2 ^ 64 - 1 - b) k, flip_bit 64 b k lb (bit_below a 64 k la here)));
      all = λ k e.
          ⊎_elim inl
          (λ z. inr (omega (arith, and_bit a (2 ^ 64 - 1 - b) k, flip_bit 64 b k lb (bit_below a 64 k la e))))
          (digit b k);
    }

and_pow : (k w : ℕ) → bit w k ≡ 1 → bit_and w (2 ^ k) ≡ 2 ^ k
unfolding bit
and_pow zero w e = and_mask w 1 ∙ e
and_pow (suc k) w e =
    let h : bit_and (w / 2) (2 ^ suc k / 2) ≡ 2 ^ k = ap (bit_and (w / 2)) (half_pow k) ∙ and_pow k (w / 2) e in
    and_step w (2 ^ suc k) ∙ omega (arith, h, even_pow k, pow-suc 2 k)

pub cleared_of : (w k x : ℕ) → x ≡ 2 ^ k → bit w k ≡ 1 → Cleared w k (bit_xor w x)
cleared_of w k x is e =
    subst (λ (x : ℕ). Cleared w k (bit_xor w x)) (sym is)
    (record {
      rest = λ j h.
          ⊎_elim (λ y. subst (λ (j : ℕ). bit w j ≡ 1) (sym (pow_only k j y)) e) (λ z. xor_out w (2 ^ k) j h z)
          (digit (2 ^ k) j);
      all = λ j h. ⊎_elim (λ y. inl (pow_only k j y)) (λ z. inr (xor_in w (2 ^ k) j h z)) (digit (2 ^ k) j);
      less = omega (arith, xor_add_and w (2 ^ k), and_pow k w e, pow_pos k);
    })

-- the lowest digit of a word
pub lowest_bit : (w : ℕ) → w < 2 ^ 64 → (w ≡ 0 → ⊥) → bit w (count_trailing_zeros 64 w) ≡ 1
lowest_bit w h z = tz_set 64 w (omega arith) h

pub lowest_below : (w : ℕ) → w < 2 ^ 64 → (w ≡ 0 → ⊥) → count_trailing_zeros 64 w < 64
lowest_below w h z = bit_below w 64 (count_trailing_zeros 64 w) h (lowest_bit w h z)

-- the digits above the devices
pub high_bit : (x j u : ℕ) → bit (x / 2 ^ j) u ≡ bit x (u + j)
high_bit x j u = shift_bit x j u ∙ ap (bit x) (add_comm j u)
