-- Demand 2 for locks: question 23, asked after 16, refuses exactly by the lock of the device.
use Prim.Native.Nat.{ℕ, zero, suc, ◌≤◌}
use mathlib.Core.Path.{◌≡◌, refl, sym, ap, ◌∙◌}
use mathlib.Core.Logic.{◌↔◌, ◌⊎◌, inl, inr}
use mathlib.Core.Bool.{Bool, true, false, not, ◌&&◌, ◌||◌, true≢false}
use native.Mathlib.Omega.{arith}
use lib.Dec.{leb, eqb}
use borrow.Author.Tests.{eqb-true, eq-eqb, ne_eqb}
use Rattle.model.specs.Base.{below}
use Rattle.model.specs.Config.{most_devices}
use Rattle.model.specs.State.{State, device_in, lock_of, unlocked, well_formed}
use Rattle.model.specs.Questions.{
  item_fits,
  changed,
  q11,
  q12,
  q13,
  q14,
  q15,
  q16,
  q17,
  q18,
  q19,
  q20,
  q21,
  q22,
  q23,
  ask,
  judge,
}
use Rattle.model.specs.declared.Family.{Family}
use Rattle.model.specs.declared.Family.TheVariants.{Activate, Lock, Unlock}
use Rattle.model.specs.declared.Actor.{Actor}
use Rattle.model.specs.declared.Actor.TheVariants.{Device}
use Rattle.model.specs.declared.Config.{Config}
use Rattle.model.specs.declared.Operation.{Operation}
use Rattle.model.proofs.Lists.{and_l, and_r, or_true, both_true}
use Rattle.model.proofs.GreenRefusals.{not-false}
use Rattle.model.proofs.Formed.{formed_of}
use Rattle.model.proofs.Rings.{asked_past}
use Rattle.model.proofs.Demand2.{ask_true}

-- a question with another number does not answer 23
not_asked : (n : ℕ) (t : Bool) (rest : ℕ) → (n ≡ 23 → ⊥) → (rest ≡ 23 → ⊥) → ask n t rest ≡ 23 → ⊥
not_asked n t rest h k e = k (asked_past n 23 t rest h e).1

first-asked : (t : Bool) (rest : ℕ) → (rest ≡ 23 → ⊥) → (ask 23 t rest ≡ 23) ↔ (t ≡ false)
first-asked true rest k = ((λ h. absurd (k h)), λ h. absurd (true≢false h))
first-asked false rest k = ((λ h. refl), λ h. refl)

locked_is : (n : ℕ) → (eqb n 0 ≡ false) ↔ (n ≡ 0 → ⊥)
locked_is n = ((λ h e. true≢false (sym (eq-eqb n 0 e) ∙ h)), λ k. ne_eqb n 0 k)

below_all : (n : ℕ) (p : ℕ → Bool) → ((i : ℕ) → p i ≡ true) → below n p ≡ true
below_all zero p h = refl
below_all (suc n) p h = both_true (below_all n p h) (h n)

-- question 23: a lock in a well formed state is 0 or 1
pub lock-bit : (room : ℕ) (config : Config) (b : State) → well_formed room config b ≡ true → (c : ℕ) → 1 ≤ c
    → c ≤ most_devices → (lock_of b c ≡ 0 → ⊥) ↔ (lock_of b c ≡ 1)
lock-bit room config b h c l k = ((λ z. go z (or_true ((formed_of room config b h).locks c l k))), λ e z. omega arith)
  where
    go : (lock_of b c ≡ 0 → ⊥) → (unlocked b c ≡ true)
        ⊎ (eqb (lock_of b c) 1 && leb c config.counts.devices && eqb (device_in b c) 0 ≡ true) → lock_of b c ≡ 1
    go z (inl u) = absurd (z (eqb-true (lock_of b c) 0 u))
    go z (inr q) = eqb-true (lock_of b c) 1 (search (and_l, and_r))

module _ (config : Config) (b : State) (op : Operation) where
  -- with those before it answered yes, 23 answers exactly if it is answered no
  answer_23 : (f : Family) (a : Actor) → q11 config op f a ≡ true → q12 op f ≡ true → q13 config op f ≡ true
      → q14 b op f a ≡ true → q15 b op f ≡ true → q16 b op f a ≡ true
      → (judge config b op f a ≡ 23) ↔ (q23 b op f a ≡ false)
  unfolding judge
  answer_23 f a p11 p12 p13 p14 p15 p16 =
      let e = ask_true 11 (q11 config op f a) _ p11 ∙ (ask_true 12 (q12 op f) _ p12
      ∙ (ask_true 13 (q13 config op f) _ p13 ∙ (ask_true 14 (q14 b op f a) _ p14
      ∙ (ask_true 15 (q15 b op f) _ p15 ∙ ask_true 16 (q16 b op f a) _ p16)))) in
      let l = first-asked (q23 b op f a) _ later in
      ((λ h. l.0 (sym e ∙ h)), λ h. e ∙ l.1 h)
    where
      later : ask 17 (q17 b op f a) (ask 18 (q18 config b op f a) (ask 19 (q19 config b op f a)
          (ask 20 (q20 config b op f a) (ask 22 (q22 config b op f a) (ask 21 (q21 config b op f a) 0))))) ≡ 23 → ⊥
      later =
          not_asked 17 (q17 b op f a) _ (omega arith) (not_asked 18 (q18 config b op f a) _ (omega arith)
          (not_asked 19 (q19 config b op f a) _ (omega arith) (not_asked 20 (q20 config b op f a) _ (omega arith)
          (not_asked 22 (q22 config b op f a) _ (omega arith) (not_asked 21 (q21 config b op f a) 0 (omega arith)
          (λ h. omega arith))))))

  -- with 11, 14 and 16 answered yes, a device's activation is answered 23 exactly if the device is locked; it comes
  -- without items
  pub activate_23 : op.count ≡ 0 → q11 config op Activate Device ≡ true → q14 b op Activate Device ≡ true
      → q16 b op Activate Device ≡ true
      → (judge config b op Activate Device ≡ 23) ↔ (lock_of b op.subject ≡ 0 → ⊥)
  unfolding q12 q13 q15 q23
  activate_23 none p11 p14 p16 =
      let l = answer_23 Activate Device p11
      (ap (λ (n : ℕ). below n (λ i. below i (λ j. eqb (changed op Activate i) 0
      || not (eqb (changed op Activate j) (changed op Activate i))))) none)
      (ap (λ (n : ℕ). below n (item_fits config op Activate)) none) p14 refl p16 in
      let t = locked_is (lock_of b op.subject) in
      ((λ h. t.0 (l.0 h)), λ q. l.1 (t.1 q))

  -- with 11 and 16 answered yes, locking is answered 23 exactly if the device is locked, unlocking exactly if it is not
  pub lock_23 : q11 config op Lock Device ≡ true → q16 b op Lock Device ≡ true
      → (judge config b op Lock Device ≡ 23) ↔ (lock_of b op.subject ≡ 0 → ⊥)
  unfolding q12 q13 q14 q15 q23
  lock_23 p11 p16 =
      let l = answer_23 Lock Device p11 (below_all op.count _ (λ i. below_all i _ (λ j. refl)))
      (below_all op.count _ (λ i. refl)) refl refl p16 in
      let t = locked_is (lock_of b op.subject) in
      ((λ h. t.0 (l.0 h)), λ q. l.1 (t.1 q))

  pub unlock_23 : q11 config op Unlock Device ≡ true → q16 b op Unlock Device ≡ true
      → (judge config b op Unlock Device ≡ 23) ↔ (lock_of b op.subject ≡ 0)
  unfolding q12 q13 q14 q15 q23
  unlock_23 p11 p16 =
      let l = answer_23 Unlock Device p11 (below_all op.count _ (λ i. below_all i _ (λ j. refl)))
      (below_all op.count _ (λ i. refl)) refl refl p16 in (
        (λ h. eqb-true (lock_of b op.subject) 0 (not-false (unlocked b op.subject) (l.0 h))),
        λ q. l.1 (ap not (eq-eqb (lock_of b op.subject) 0 q)),
      )
