-- Words of a list: one that is set, and digits that stay.
use Prim.Native.Nat.{ℕ, zero, suc, ◌<◌}
use native.Mathlib.Decide.{ℕ_discrete}
use mathlib.Core.Path.{◌≡◌, sym, subst}
use mathlib.Core.Logic.{by_cases}
use mathlib.Core.List.{List}
use lib.Bits.{bit_or}
use lib.ListN.{get_or, length, set, replicate}
use lib.Seq.{get_or-set_same, get_or-set_other}
use Rattle.scene.specs.Digits.{bit, Has, Wider}
use Rattle.scene.proofs.Digits.{or_left, bit_zero}

-- what holds of each word holds after one is set, if it holds of the new one
pub set_word : (P : ℕ → ℕ → Type 0) (b : List ℕ) (i x : ℕ) → i < length b → P i x → ((j : ℕ) → P j (get_or b j 0))
    → (j : ℕ) → P j (get_or (set b i x) j 0)
set_word P b i x h p f j =
    by_cases (ℕ_discrete j i)
    (λ e. subst (λ (j : ℕ). P j (get_or (set b i x) j 0)) (sym e)
    (subst (λ (y : ℕ). P i y) (sym (get_or-set_same b i x 0 h)) p))
    (λ e. subst (λ (y : ℕ). P j y) (sym (get_or-set_other b i j x 0 e)) (f j))

pub wider_set : (b : List ℕ) (i x : ℕ) → i < length b → Wider b (set b i (bit_or (get_or b i 0) x))
wider_set b i x h =
    record {
      kept = set_word (λ j y. (n : ℕ) → Has b j n → bit y n ≡ 1) b i (bit_or (get_or b i 0) x) h
          (λ n e. or_left (get_or b i 0) x n e) (λ j n e. e);
    }

pub wider_none : {b : List ℕ} → Wider b b
wider_none = record { kept = λ j n e. e }

pub wider_then : {b b' b'' : List ℕ} → Wider b b' → Wider b' b'' → Wider b b''
wider_then f g = record { kept = λ j n e. g.kept j n (f.kept j n e) }

-- no digit of a word of zeros is set
pub no_digit : (k j n : ℕ) → Has (replicate k 0) j n → ⊥
no_digit zero j n e = bit_zero n e
no_digit (suc k) zero n e = bit_zero n e
no_digit (suc k) (suc j) n e = no_digit k j n e
