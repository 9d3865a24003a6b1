-- What the questions of before and those of today answer in a state that has none of what came since.
use Prim.Native.Nat.{ℕ, zero, suc, ◌≤◌, ◌<◌}
use mathlib.Core.Path.{◌≡◌, refl, sym, ap, ◌∙◌}
use mathlib.Core.Logic.{◌⊎◌, inl, inr}
use mathlib.Core.List.{List, [], ◌∷◌}
use mathlib.Core.Bool.{Bool, true, false, not, cond, ◌&&◌, true≢false, false≢true, ◌||◌}
use native.Mathlib.Omega.{arith}
use lib.ListN.{get_or, set}
use lib.Dec.{leb, eqb}
use borrow.Author.Tests.{leb-true, le-leb, eqb-true, eq-eqb}
use Rattle.model.specs.Base.{nth, all}
use Rattle.model.specs.Config.{most_objects, most_edition, most_devices}
use Rattle.model.specs.Number.{most_number, most_before}
use Rattle.model.specs.State.{State, green_status, green, status_of}
use Rattle.model.specs.Older.{no_locks}
use Rattle.model.specs.Operation.{green_code, lock_code, unlock_code, family_of, actor_of}
use Rattle.model.specs.Effect.{apply, created_status}
use Rattle.model.specs.Questions.{
  ask,
  judge,
  ringless,
  zone_of,
  q11,
  q12,
  q13,
  q14,
  q15,
  q16,
  q17,
  q18,
  q19,
  q20,
  q21,
  q22,
  q23,
}
use Rattle.model.specs.declared.Family.{Family}
use Rattle.model.specs.declared.Family.TheVariants.{Write, Copy, Create, Destroy, Activate, Deactivate, Lock, Unlock}
use Rattle.model.specs.declared.Actor.{Actor}
use Rattle.model.specs.declared.Actor.TheVariants.{Driver, Device, External}
use Rattle.model.specs.declared.Config.{Config}
use Rattle.model.specs.declared.Operation.{Operation}
use Rattle.model.proofs.Lists.{or_left, nth-zeros, not-true, from1to-low, from1to-high, every_at}
use Rattle.model.proofs.ClosureExact.{confined_exact}
use Rattle.model.proofs.Accepted.{Sound}
use Rattle.model.proofs.Facts.{Upto18}
use Rattle.sources.proofs.Stores.{Kept}
use Rattle.model.proofs.Moves.{actor_exists_lem}
use Rattle.sources.proofs.Activation.{quiet_in, quiet_confined}
use Rattle.model.proofs.Formed.{Formed, formed_to_lem}
use Rattle.continuity.specs.Past.{Past, quiet_line, ask_in, judge_in, statuses_in}

-- what makes parameters those of a gate of before: limits were smaller, and where a question was not asked, there was
-- nothing to ask it of
pub record Real (past : Past) : Type 0 where
  pub objects : past.limits.objects ≤ most_objects
  pub edition : past.limits.edition ≤ most_edition
  pub number : past.limits.number ≤ most_number
  pub enough : most_before ≤ past.limits.number
  pub statuses : 2 ≤ past.status
  pub unlocked : past.locks ≡ false → past.code < lock_code
  pub locked : (23 ≤ past.question) ⊎ (past.locks ≡ false)
  pub greens : (past.code < green_code) ⊎ (green_status ≤ past.status)
  pub ruled : (22 ≤ past.question) ⊎ (past.status < green_status)
  pub ringed : (21 ≤ past.question) ⊎ (past.rings ≡ false)

-- a state that has nothing of what came since
pub record Fit (past : Past) (b : State) : Type 0 where
  pub lockless : past.locks ≡ false → b.lock ≡ no_locks
  pub plain : statuses_in past b ≡ true

-- tests over a list
pub all_get_d : (p : ℕ → Bool) (l : List ℕ) (i : ℕ) → all p l ≡ true → p 0 ≡ true → p (get_or l i 0) ≡ true
all_get_d p [] i h z = z
all_get_d p (x ∷ l) zero h z = go (p x) h
  where
    go : (t : Bool) → t && all p l ≡ true → t ≡ true
    go true h = refl
    go false h = h
all_get_d p (x ∷ l) (suc i) h z = all_get_d p l i (go (p x) h) z
  where
    go : (t : Bool) → t && all p l ≡ true → all p l ≡ true
    go true h = h
    go false h = absurd (false≢true h)

pub all_set : (p : ℕ → Bool) (l : List ℕ) (i v : ℕ) → all p l ≡ true → p v ≡ true → all p (set l i v) ≡ true
all_set p [] i v h z = refl
all_set p (x ∷ l) zero v h z = go (p x) (p v) h z
  where
    go : (t u : Bool) → t && all p l ≡ true → u ≡ true → u && all p l ≡ true
    go true true h z = h
    go true false h z = absurd (false≢true z)
    go false u h z = absurd (false≢true h)
all_set p (x ∷ l) (suc i) v h z = go (p x) h (λ k. all_set p l i v k z)
  where
    go : (t : Bool) → t && all p l ≡ true → (all p l ≡ true → all p (set l i v) ≡ true)
        → t && all p (set l i v) ≡ true
    go true h k = k h
    go false h k = absurd (false≢true h)

-- a code below that of locks names neither family of locks
abbrev locking : Family → Bool
locking Write = false
locking Copy = false
locking Create = false
locking Destroy = false
locking Activate = false
locking Deactivate = false
locking Lock = true
locking Unlock = true

neq_eqb : (m n : ℕ) → (m ≡ n → ⊥) → eqb m n ≡ false
neq_eqb m n h = not-true (eqb m n) (λ e. h (eqb-true m n e))

no_locking : (c : ℕ) → c < lock_code → locking (family_of c) ≡ false
no_locking c h =
    go (leb c 2) (leb c 4) (eqb c 5 || eqb c green_code) (eqb c 6) (leb c 9) (eqb c lock_code) (eqb c unlock_code)
    (neq_eqb c lock_code (λ e. omega arith)) (neq_eqb c unlock_code (λ e. omega arith))
  where
    go : (t₁ t₂ t₃ t₄ t₅ t₆ t₇ : Bool) → t₆ ≡ false → t₇ ≡ false
        → locking (cond t₁ Write (cond t₂ Copy (cond t₃ Create (cond t₄ Destroy (cond t₅ Activate
        (cond t₆ Lock (cond t₇ Unlock Deactivate))))))) ≡ false
    go true t₂ t₃ t₄ t₅ t₆ t₇ p q = refl
    go false true t₃ t₄ t₅ t₆ t₇ p q = refl
    go false false true t₄ t₅ t₆ t₇ p q = refl
    go false false false true t₅ t₆ t₇ p q = refl
    go false false false false true t₆ t₇ p q = refl
    go false false false false false true t₇ p q = absurd (true≢false p)
    go false false false false false false true p q = absurd (true≢false q)
    go false false false false false false false p q = refl

pub ask_under : (n : ℕ) (t : Bool) {x y : ℕ} → (t ≡ true → x ≡ y) → ask n t x ≡ ask n t y
ask_under n true h = h refl
ask_under n false h = refl

-- a question that was not asked, and is answered yes today
asked_in : (past : Past) (n : ℕ) (t : Bool) (x y : ℕ) → (leb n past.question ≡ false → t ≡ true)
    → (t ≡ true → x ≡ y) → ask_in past n t x ≡ ask n t y
asked_in past n t x y free h = go (leb n past.question) refl
  where
    yes : (t : Bool) → t ≡ true → (t ≡ true → x ≡ y) → x ≡ ask n t y
    yes true e h = h refl
    yes false e h = absurd (false≢true e)

    go : (u : Bool) → leb n past.question ≡ u → cond u (ask n t x) x ≡ ask n t y
    go true e = ask_under n t h
    go false e = yes t (free e) h

unasked : (n m : ℕ) → leb n m ≡ false → n ≤ m → ⊥
unasked n m e h = true≢false (sym (le-leb n m h) ∙ e)

module _ (past : Past) (real : Real past) {room : ℕ} (config : Config) (sound : Sound config) (b : State)
    (kept : Kept room config b) (formed : Formed room config b) (fit : Fit past b)
    (quiet : past.rings ≡ false → quiet_line config ≡ true) (op : Operation) (low : op.code ≤ past.code) where
  -- question 23, where there is no lock
  free_23 : (f : Family) (a : Actor) → locking f ≡ false → b.lock ≡ no_locks → q23 b op f a ≡ true
  unfolding q23
  free_23 Write a n e = refl
  free_23 Copy a n e = refl
  free_23 Create a n e = refl
  free_23 Destroy a n e = refl
  free_23 Activate Driver n e = refl
  free_23 Activate Device n e =
      eq-eqb _ 0 (ap (λ (l : List ℕ). nth l op.subject 0) e ∙ nth-zeros most_devices op.subject)
  free_23 Activate External n e = refl
  free_23 Deactivate a n e = refl
  free_23 Lock a n e = absurd (true≢false n)
  free_23 Unlock a n e = absurd (true≢false n)

  lockless_23 : leb 23 past.question ≡ false → q23 b op (family_of op.code) (actor_of op.code) ≡ true
  lockless_23 e = go real.locked
    where
      go : (23 ≤ past.question) ⊎ (past.locks ≡ false) → q23 b op (family_of op.code) (actor_of op.code) ≡ true
      go (inl h) = absurd (unasked 23 past.question e h)
      go (inr h) =
          free_23 (family_of op.code) (actor_of op.code)
          (no_locking op.code (omega (arith, low, real.unlocked h))) (fit.lockless h)

  -- question 22, where there is no green zone
  no_green : past.status < green_status → (p : ℕ) → green b p ≡ false
  no_green h p =
      let s : status_of b p ≤ past.status =
      leb-true _ _ (all_get_d (λ s. leb s past.status) b.status p fit.plain
      (le-leb 0 past.status (omega arith))) in
      neq_eqb (status_of b p) green_status (λ e. omega arith)

  not_green : (p : ℕ) (t : Bool) → green b p ≡ false → not (green b p) || t ≡ true
  not_green p t e = or_left (not (green b p)) t (ap not e)

  free_22 : ((p : ℕ) → green b p ≡ false) → (f : Family) (a : Actor) → q22 config b op f a ≡ true
  unfolding q22
  free_22 g Write Driver = not_green (zone_of b op Driver) _ (g _)
  free_22 g Write Device = refl
  free_22 g Write External = not_green (zone_of b op External) _ (g _)
  free_22 g Copy Driver = not_green (zone_of b op Driver) _ (g _)
  free_22 g Copy Device = refl
  free_22 g Copy External = not_green (zone_of b op External) _ (g _)
  free_22 g Create a = refl
  free_22 g Destroy a = refl
  free_22 g Activate a = not_green op.partition _ (g _)
  free_22 g Deactivate a = refl
  free_22 g Lock a = refl
  free_22 g Unlock a = refl

  greenless_22 : (f : Family) (a : Actor) → leb 22 past.question ≡ false → q22 config b op f a ≡ true
  greenless_22 f a e = go real.ruled
    where
      go : (22 ≤ past.question) ⊎ (past.status < green_status) → q22 config b op f a ≡ true
      go (inl h) = absurd (unasked 22 past.question e h)
      go (inr h) = free_22 (no_green h) f a

  -- question 21, where there is no ring
  free_21 : quiet_line config ≡ true → (f : Family) (a : Actor) → Upto18 config b op f a → q21 config b op f a ≡ true
  unfolding q21
  free_21 h Write a p = refl
  free_21 h Copy a p = refl
  free_21 h Create a p = refl
  free_21 h Destroy a p = refl
  free_21 h Activate Driver p = refl
  free_21 h Activate Device p =
      let ex = actor_exists_lem config op Activate Device p.p11 in
      let r : ringless config op.subject ≡ true =
      every_at config.counts.devices (ringless config) h op.subject
      (from1to-low op.subject config.counts.devices ex)
      (from1to-high op.subject config.counts.devices ex) in
      (confined_exact config (apply config op Activate Device b)).1
      (quiet_confined config sound op b kept (formed_to_lem room config b formed) Device p
      (quiet_in config sound op b kept Device r))
  free_21 h Activate External p = refl
  free_21 h Deactivate a p = refl
  free_21 h Lock a p = refl
  free_21 h Unlock a p = refl

  ringless_21 : (f : Family) (a : Actor) → Upto18 config b op f a → leb 21 past.question ≡ false
      → q21 config b op f a ≡ true
  ringless_21 f a p e = go real.ringed
    where
      go : (21 ≤ past.question) ⊎ (past.rings ≡ false) → q21 config b op f a ≡ true
      go (inl h) = absurd (unasked 21 past.question e h)
      go (inr h) = free_21 (quiet h) f a p

  -- questions 11 to 23
  pub judge-same : judge_in past config b op (family_of op.code) (actor_of op.code)
      ≡ judge config b op (family_of op.code) (actor_of op.code)
  unfolding judge judge_in
  judge-same =
      let f = family_of op.code in
      let a = actor_of op.code in
      ask_under 11 (q11 config op f a) λ p₁₁.
      ask_under 12 (q12 op f) λ p₁₂.
      ask_under 13 (q13 config op f) λ p₁₃.
      ask_under 14 (q14 b op f a) λ p₁₄.
      ask_under 15 (q15 b op f) λ p₁₅.
      ask_under 16 (q16 b op f a) λ p₁₆.
      asked_in past 23 (q23 b op f a) _ _ lockless_23 λ p₂₃.
      ask_under 17 (q17 b op f a) λ p₁₇.
      ask_under 18 (q18 config b op f a) λ p₁₈.
      ask_under 19 (q19 config b op f a) λ p₁₉.
      ask_under 20 (q20 config b op f a) λ p₂₀.
      asked_in past 22 (q22 config b op f a) _ _ (greenless_22 f a) λ p₂₂.
      asked_in past 21 (q21 config b op f a) _ _
      (ringless_21 f a (record {
        p11 = p₁₁;
        p12 = p₁₂;
        p13 = p₁₃;
        p14 = p₁₄;
        p15 = p₁₅;
        p16 = p₁₆;
        p23 = p₂₃;
        p17 = p₁₇;
        p18 = p₁₈;
      })) λ p₂₁. refl

  -- what the operation leaves has nothing of what came since
  kept-lock : (f : Family) (a : Actor) → locking f ≡ false → (apply config op f a b).lock ≡ b.lock
  unfolding apply
  kept-lock Write a n = refl
  kept-lock Copy a n = refl
  kept-lock Create a n = refl
  kept-lock Destroy a n = refl
  kept-lock Activate a n = refl
  kept-lock Deactivate a n = refl
  kept-lock Lock a n = absurd (true≢false n)
  kept-lock Unlock a n = absurd (true≢false n)

  created_plain : leb (created_status op) past.status ≡ true
  created_plain = go real.greens
    where
      either : (t : Bool) → green_status ≤ past.status → leb (cond t green_status 1) past.status ≡ true
      either true h = le-leb _ _ h
      either false h = le-leb 1 past.status (omega arith)

      go : (past.code < green_code) ⊎ (green_status ≤ past.status) → leb (created_status op) past.status ≡ true
      go (inl h) =
          ap (λ (t : Bool). leb (cond t green_status 1) past.status)
          (neq_eqb op.code green_code (λ e. omega (arith, low)))
          ∙ le-leb 1 past.status (omega (arith, real.statuses))
      go (inr h) = either (eqb op.code green_code) h

  plain_after : (f : Family) (a : Actor) → statuses_in past (apply config op f a b) ≡ true
  unfolding apply
  plain_after Write a = fit.plain
  plain_after Copy a = fit.plain
  plain_after Create a = all_set (λ s. leb s past.status) b.status op.partition _ fit.plain created_plain
  plain_after Destroy a =
      all_set (λ s. leb s past.status) b.status op.partition 2 fit.plain (le-leb 2 _ real.statuses)
  plain_after Activate a = fit.plain
  plain_after Deactivate a = fit.plain
  plain_after Lock a = fit.plain
  plain_after Unlock a = fit.plain

  pub fit_after : Fit past (apply config op (family_of op.code) (actor_of op.code) b)
  fit_after =
      record {
        lockless = λ h. kept-lock (family_of op.code) (actor_of op.code)
            (no_locking op.code (omega (arith, low, real.unlocked h))) ∙ fit.lockless h;
        plain = plain_after (family_of op.code) (actor_of op.code);
      }
