-- The devices that may name an object.
use Prim.Native.Nat.{ℕ, ◌+◌, ◌-◌, ◌^◌, ◌≤◌, ◌<◌}
use native.Mathlib.Omega.{arith}
use native.Mathlib.Decide.{ℕ_discrete}
use mathlib.Core.Path.{◌≡◌, refl, sym, ap, subst, ◌∙◌}
use mathlib.Core.Logic.{⊎_elim, by_cases}
use mathlib.Core.Bool.{Bool, not}
use mathlib.Core.List.{List}
use borrow.Author.Tests.{eqb-true, eqb-false, eq-eqb, ne_eqb}
use lib.Bits.{bit_or}
use lib.Dec.{eqb}
use lib.ListN.{get_or, length, set, replicate}
use lib.Seq.{get_or-set_same, get_or-set_other}
use Rattle.model.specs.Config.{most_devices}
use Rattle.model.specs.State.{State, device_in, object_in}
use Rattle.model.proofs.Lists.{and_l, and_r, or_true, both_true, flip_true}
use Rattle.scene.specs.Digits.{bit, Has}
use Rattle.scene.specs.Rules.{crossing, naming}
use Rattle.closure.specs.Search.{Parts, FineWord}
use Rattle.scene.proofs.Digits as Digits
use Rattle.scene.proofs.Digits.{bit_zero, pow_bit, pow_only, full_bit, or_out}
use Rattle.scene.proofs.Widening.{set_word, wider_set, no_digit}

-- the devices of each partition: one device more
pub parts_more : (b : State) (t : List ℕ) (p c x : ℕ) → p < length t → 1 ≤ c → x ≡ 2 ^ (c - 1) → p ≡ device_in b c
    → Parts b c t → Parts b (c + 1) (set t p (bit_or (get_or t p 0) x))
parts_more b t p c x h l e q f =
    record {
      right = set_word (λ j y. (n : ℕ) → bit y n ≡ 1 → device_in b (n + 1) ≡ j) t p (bit_or (get_or t p 0) x) h
          (λ n d. ⊎_elim (f.right p n) (λ z. sym (q ∙ ap (device_in b) (is n z))) (or_out (get_or t p 0) x n d))
          f.right;
      all = λ n k. by_cases (ℕ_discrete (n + 1) c) (λ y. here n (sym y))
          (λ y. (wider_set t p x h).kept (device_in b (n + 1)) n (f.all n (omega arith)));
    }
  where
    is : (n : ℕ) → bit x n ≡ 1 → c ≡ n + 1
    is n z = omega (arith, pow_only (c - 1) n (subst (λ (w : ℕ). bit w n ≡ 1) e z))

    here : (n : ℕ) → c ≡ n + 1 → Has (set t p (bit_or (get_or t p 0) x)) (device_in b (n + 1)) n
    here n y =
        let d : c - 1 ≡ n = omega arith in
        subst (λ (i : ℕ). Has (set t p (bit_or (get_or t p 0) x)) i n) (q ∙ ap (device_in b) y)
        (subst (λ (w : ℕ). bit w n ≡ 1) (sym (get_or-set_same t p (bit_or (get_or t p 0) x) 0 h))
        (Digits.or_right (get_or t p 0) x n
        (subst (λ (w : ℕ). bit w n ≡ 1) (sym e) (subst (λ (i : ℕ). bit (2 ^ (c - 1)) i ≡ 1) d (pow_bit (c - 1))))))

pub parts_none : (b : State) (k : ℕ) → Parts b 1 (replicate k 0)
parts_none b k = record { right = λ p n e. absurd (no_digit k p n e); all = λ n h. absurd (omega arith) }

-- questions 19 and 21: no device may name a hardcoded object, and another one those of its partition
module _ (kind : List ℕ) (b : State) (devices o : ℕ) where
  pub fine_hardcoded : get_or kind o 0 ≡ 4 → FineWord (crossing kind b) devices o 0
  unfolding crossing
  fine_hardcoded four =
      record { right = λ n d h. absurd (bit_zero n d); all = λ n i h. rw (eq-eqb (get_or kind o 0) 4 four) refl }

  pub fine_inside : (get_or kind o 0 ≡ 4 → ⊥) → (p : ℕ) (t : List ℕ) → Parts b (devices + 1) t → p ≡ object_in b o
      → FineWord (crossing kind b) devices o (get_or t p 0)
  unfolding crossing
  fine_inside four p t f e =
      record {
        right = λ n d h.
            ⊎_elim (λ k. four (eqb-true (get_or kind o 0) 4 k))
            (λ k. eqb-false (object_in b o) (device_in b (n + 1)) (flip_true _ k) (sym (f.right p n d ∙ e)))
            (or_true h);
        all = λ n i h.
            (let apart : object_in b o ≡ device_in b (n + 1) → ⊥ =
            λ q. h (subst (λ (j : ℕ). Has t j n) (sym (e ∙ q)) (f.all n (omega (arith, i.high)))) in
            rw (ne_eqb (get_or kind o 0) 4 four, ne_eqb (object_in b o) (device_in b (n + 1)) apart) refl);
      }

-- the device left out
pub left_none : (but n : ℕ) → bit 0 n ≡ 1 → n + 1 ≡ but
left_none but n e = absurd (bit_zero n e)

pub left_one : (but x : ℕ) → 1 ≤ but → x ≡ 2 ^ (but - 1) → (n : ℕ) → bit x n ≡ 1 → n + 1 ≡ but
left_one but x h e n b = omega (arith, pow_only (but - 1) n (subst (λ (w : ℕ). bit w n ≡ 1) e b))

pub left-all : (but x : ℕ) → x ≡ 2 ^ (but - 1) → (n : ℕ) → n + 1 ≡ but → bit x n ≡ 1
left-all but x e n is =
    let d : but - 1 ≡ n = omega arith in
    subst (λ (w : ℕ). bit w n ≡ 1) (sym e) (subst (λ (i : ℕ). bit (2 ^ (but - 1)) i ≡ 1) d (pow_bit (but - 1)))

-- question 20: all devices may name an object that is not concerned, and the one left out may name one that is
module _ (concerned : List ℕ) (but devices o : ℕ) (few : devices ≤ most_devices) where
  pub fine_free : (get_or concerned o 0 ≡ 1 → ⊥) → FineWord (naming concerned but) devices o 65535
  unfolding naming
  fine_free free =
      record {
        right = λ n d h. free (eqb-true (get_or concerned o 0) 1 (and_r (not (eqb (n + 1) but)) _ h));
        all = λ n i h. absurd (h (full_bit 16 n (omega (arith, i.high))));
      }

  pub fine_spared : get_or concerned o 0 ≡ 1 → (z : ℕ) → ((n : ℕ) → bit z n ≡ 1 → n + 1 ≡ but)
      → ((n : ℕ) → n + 1 ≡ but → n + 1 ≤ most_devices → bit z n ≡ 1) → FineWord (naming concerned but) devices o z
  unfolding naming
  fine_spared one z only all =
      record {
        right = λ n d h.
            eqb-false (n + 1) but (flip_true _ (and_l (not (eqb (n + 1) but)) _ h)) (only n d);
        all = λ n i h.
            both_true (ap not (ne_eqb (n + 1) but (λ e. h (all n e (omega (arith, i.high))))))
            (eq-eqb (get_or concerned o 0) 1 one);
      }

-- words of objects: one object more
pub fine_more : (bad : ℕ → ℕ → Bool) (devices : ℕ) (f : List ℕ) (o x : ℕ) → o < length f
    → FineWord bad devices o x → ((j : ℕ) → 1 ≤ j → j < o → FineWord bad devices j (get_or f j 0)) → (j : ℕ) → 1 ≤ j
    → j < o + 1 → FineWord bad devices j (get_or (set f o x) j 0)
fine_more bad devices f o x h p g j l k =
    by_cases (ℕ_discrete j o)
    (λ e. subst (λ (j : ℕ). FineWord bad devices j (get_or (set f o x) j 0)) (sym e)
    (subst (λ (y : ℕ). FineWord bad devices o y) (sym (get_or-set_same f o x 0 h)) p))
    (λ e. subst (λ (y : ℕ). FineWord bad devices j y) (sym (get_or-set_other f o j x 0 e)) (g j l (omega arith)))
