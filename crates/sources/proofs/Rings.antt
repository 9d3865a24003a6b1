-- Document 02, N4: in a state that operations reach, question 21 refuses no device whose hardcoded value writes no
-- kind 1 object, so that sessions of lines without rings are answered as before.
use Prim.Native.Nat.{ℕ, zero, suc}
use mathlib.Core.Path.{◌≡◌, refl, sym, ap, ◌∙◌, subst}
use mathlib.Core.Logic.{◌⊎◌, inl, inr}
use mathlib.Core.List.{List, [], ◌∷◌, ◌++◌, Memᴰ}
use mathlib.Core.Bool.{Bool, true, false, ◌&&◌, ◌||◌, cond, true≢false, false≢true}
use native.Mathlib.Omega.{arith}
use lib.ListN.{length}
use lib.Dec.{leb, eqb}
use borrow.Author.Tests.{eqb-true}
use Rattle.model.specs.State.{State}
use Rattle.model.specs.Operation.{
  number,
  family_of,
  actor_of,
  lock_code,
  unlock_code,
  after_code,
  ended,
  read_operation,
  read_operation_by,
}
use Rattle.model.specs.Effect.{answer_bytes, apply}
use Rattle.model.specs.Questions.{q11, q12, q13, q14, q15, q16, q17, q18, q19, q20, q21, q22, q23, judge, ringless}
use Rattle.model.specs.Gate.{or_else, judged}
use Rattle.sources.specs.Gate.{Source, config_of, fresh_on, operate_on}
use Rattle.model.specs.Separation.{Call}
use Rattle.sources.specs.Separation.{answers_of, area_after, final}
use Rattle.model.specs.Demand2.{operation_in, Entering}
use Rattle.model.specs.Rings.{Ringless}
use Rattle.sources.specs.Rings.{Never21On, NoRingsOn}
use Rattle.model.specs.Parse.{Parse}
use Rattle.model.specs.declared.Family.{Family}
use Rattle.model.specs.declared.Family.TheVariants.{Write, Copy, Create, Destroy, Activate, Deactivate, Lock, Unlock}
use Rattle.model.specs.declared.Actor.{Actor}
use Rattle.model.specs.declared.Actor.TheVariants.{Driver, Device, External}
use Rattle.model.specs.declared.Config.{Config}
use Rattle.model.specs.declared.Operation.{Operation}
use Rattle.model.proofs.Lists.{from1to-low, from1to-high}
use Rattle.model.proofs.ClosureExact.{confined_exact}
use Rattle.model.proofs.Accepted.{Sound}
use Rattle.sources.proofs.Sources.{Fits}
use Rattle.model.proofs.Facts.{Upto18}
use Rattle.sources.proofs.Stores.{Kept}
use Rattle.model.proofs.Moves.{actor_exists_lem}
use Rattle.sources.proofs.Activation.{quiet_in, quiet_confined}
use Rattle.sources.proofs.Calls.{fresh_zero}
use Rattle.model.proofs.Formed.{Formed, formed_to_lem}
use Rattle.model.proofs.Demand2.{ask-last}
use Rattle.sources.proofs.Reached.{reached_state, reached_verdict}
use Rattle.model.proofs.Rings.{asked_past}

-- question 10 answers 0 or 10
ended-number : (t : Bool) (parse : Parse) → ((ended t parse).0 ≡ 0) ⊎ ((ended t parse).0 ≡ 10)
unfolding ended
ended-number true parse = inl refl
ended-number false parse = inr refl

read_number : (s : List ℕ) → ((read_operation s).0 ≡ 0) ⊎ ((read_operation s).0 ≡ 10)
unfolding read_operation_by
read_number s =
    let parse = number s 0 (after_code s) in
    ended-number (eqb parse.answer 0 && eqb parse.at (length s)) parse

read_past : (n rest : ℕ) → (n ≡ 0) ⊎ (n ≡ 10) → or_else n rest ≡ 21 → rest ≡ 21
read_past zero rest s h = h
read_past (suc n) rest (inl z) h = absurd (omega arith)
read_past (suc n) rest (inr z) h = absurd (omega arith)

-- code 8 is the one by which a device is brought in
abbrev is_device : Actor → Bool
is_device Driver = false
is_device Device = true
is_device External = false

abbrev brings : Family → Bool
brings Write = false
brings Copy = false
brings Create = false
brings Destroy = false
brings Activate = true
brings Deactivate = false
brings Lock = false
brings Unlock = false

picked : (s t : Bool) → cond s Driver (cond t Device External) ≡ Device → t ≡ true
picked true t h = absurd (false≢true (ap is_device h))
picked false true h = refl
picked false false h = absurd (false≢true (ap is_device h))

code_eight : (n : ℕ) → family_of n ≡ Activate → actor_of n ≡ Device → n ≡ 8
code_eight n f a =
    go (eqb n 2) (eqb n 4) (eqb n 8) (eqb n 11) (eqb n lock_code) (eqb n unlock_code) refl refl refl refl refl refl
    (picked (eqb n 1 || eqb n 3 || eqb n 7 || eqb n 10)
    (eqb n 2 || eqb n 4 || eqb n 8 || eqb n 11 || eqb n lock_code || eqb n unlock_code) a)
  where
    other : (k : ℕ) → brings (family_of k) ≡ false → eqb n k ≡ true → n ≡ 8
    other k h e =
        absurd (false≢true (sym h ∙ (ap (λ (m : ℕ). brings (family_of m)) (sym (eqb-true n k e)) ∙ ap brings f)))

    go : (p q r s t u : Bool) → eqb n 2 ≡ p → eqb n 4 ≡ q → eqb n 8 ≡ r → eqb n 11 ≡ s → eqb n lock_code ≡ t
        → eqb n unlock_code ≡ u → p || q || r || s || t || u ≡ true → n ≡ 8
    go true q r s t u e₂ e₄ e₈ e₁₁ e₁₄ e₁₅ h = other 2 refl e₂
    go false true r s t u e₂ e₄ e₈ e₁₁ e₁₄ e₁₅ h = other 4 refl e₄
    go false false true s t u e₂ e₄ e₈ e₁₁ e₁₄ e₁₅ h = eqb-true n 8 e₈
    go false false false true t u e₂ e₄ e₈ e₁₁ e₁₄ e₁₅ h = other 11 refl e₁₁
    go false false false false true u e₂ e₄ e₈ e₁₁ e₁₄ e₁₅ h = other lock_code refl e₁₄
    go false false false false false true e₂ e₄ e₈ e₁₁ e₁₄ e₁₅ h = other unlock_code refl e₁₅
    go false false false false false false e₂ e₄ e₈ e₁₁ e₁₄ e₁₅ h = absurd (false≢true h)

module _ (config : Config) (b : State) (op : Operation) where
  -- an operation that is answered 21 was answered yes by 11 to 18, and no by 21
  judged_21 : (f : Family) (a : Actor) → judge config b op f a ≡ 21
      → Upto18 config b op f a × (q21 config b op f a ≡ false)
  unfolding judge
  judged_21 f a h =
      let h₁ = asked_past 11 21 (q11 config op f a) _ (λ z. omega arith) h in
      let h₂ = asked_past 12 21 (q12 op f) _ (λ z. omega arith) h₁.1 in
      let h₃ = asked_past 13 21 (q13 config op f) _ (λ z. omega arith) h₂.1 in
      let h₄ = asked_past 14 21 (q14 b op f a) _ (λ z. omega arith) h₃.1 in
      let h₅ = asked_past 15 21 (q15 b op f) _ (λ z. omega arith) h₄.1 in
      let h₆ = asked_past 16 21 (q16 b op f a) _ (λ z. omega arith) h₅.1 in
      let h₂₃ = asked_past 23 21 (q23 b op f a) _ (λ z. omega arith) h₆.1 in
      let h₇ = asked_past 17 21 (q17 b op f a) _ (λ z. omega arith) h₂₃.1 in
      let h₈ = asked_past 18 21 (q18 config b op f a) _ (λ z. omega arith) h₇.1 in
      let h₉ = asked_past 19 21 (q19 config b op f a) _ (λ z. omega arith) h₈.1 in
      let h₀ = asked_past 20 21 (q20 config b op f a) _ (λ z. omega arith) h₉.1 in
      let h₂₂ = asked_past 22 21 (q22 config b op f a) _ (λ z. omega arith) h₀.1 in (
        record {
          p11 = h₁.0;
          p12 = h₂.0;
          p13 = h₃.0;
          p14 = h₄.0;
          p15 = h₅.0;
          p16 = h₆.0;
          p23 = h₂₃.0;
          p17 = h₇.0;
          p18 = h₈.0;
        },
        (ask-last 20 (q21 config b op f a)).0 h₂₂.1,
      )

  -- question 21 is put where a device comes in
  device-enters : (f : Family) (a : Actor) → q21 config b op f a ≡ false → (f ≡ Activate) × (a ≡ Device)
  unfolding q21
  device-enters Write a h = absurd (true≢false h)
  device-enters Copy a h = absurd (true≢false h)
  device-enters Create a h = absurd (true≢false h)
  device-enters Destroy a h = absurd (true≢false h)
  device-enters Activate Driver h = absurd (true≢false h)
  device-enters Activate Device h = (refl, refl)
  device-enters Activate External h = absurd (true≢false h)
  device-enters Deactivate a h = absurd (true≢false h)
  device-enters Lock a h = absurd (true≢false h)
  device-enters Unlock a h = absurd (true≢false h)

  module _ {room : ℕ} (sound : Sound config) (kept : Kept room config b) (formed : Formed room config b) where
    -- what writes no kind 1 object adds no entry that crosses
    ringless_21 : Upto18 config b op Activate Device → ringless config op.subject ≡ true
        → q21 config b op Activate Device ≡ true
    unfolding q21
    ringless_21 p quiet =
        (confined_exact config (apply config op Activate Device b)).1
        (quiet_confined config sound op b kept (formed_to_lem room config b formed) Device p
        (quiet_in config sound op b kept Device quiet))

    never_judged : (Entering op → Ringless config op.subject) → judged config op b ≡ 21 → ⊥
    never_judged quiet h =
        let f = family_of op.code in
        let a = actor_of op.code in
        let j = judged_21 f a h in
        let d = device-enters f a j.1 in
        let p : Upto18 config b op Activate Device =
        subst (λ (x : Actor). Upto18 config b op Activate x) d.1
        (subst (λ (g : Family). Upto18 config b op g a) d.0 j.0) in
        let n : q21 config b op Activate Device ≡ false =
        subst (λ (x : Actor). q21 config b op Activate x ≡ false) d.1
        (subst (λ (g : Family). q21 config b op g a ≡ false) d.0 j.1) in
        let ex = actor_exists_lem config op Activate Device p.p11 in
        let q = quiet (code_eight op.code d.0 d.1) (from1to-low op.subject config.counts.devices ex)
        (from1to-high op.subject config.counts.devices ex) in
        false≢true (sym n ∙ ringless_21 p q)

pub never_21_on : (source : Source) → Fits source → Never21On source
never_21_on source fits area h calls bytes answer quiet e =
    let config = config_of source in
    let fresh-area = (fresh_on source area).1 in
    let b = final source fresh-area calls in
    let accepted = (fresh_zero source area h).0 in
    let r = reached_state source fits area h calls in
    let v = reached_verdict source fits accepted b r.0 r.1 (area_after source fresh-area calls) bytes answer
    r.2 in
    let past = asked_past 8 21 (leb answer_bytes (length answer)) _ (λ z. omega arith) (sym v ∙ e) in
    never_judged config b (operation_in bytes) (fits.sound accepted) r.0 r.1 quiet
    (read_past (read_operation bytes).0 _ (read_number bytes) past.1)

-- the area after one call more
area_step : (source : Source) (area : List ℕ) (calls : List Call) (c : Call)
    → area_after source area (calls ++ (c ∷ []))
    ≡ (operate_on source (area_after source area calls) c.bytes c.answer).1
area_step source area [] c = refl
area_step source area (d ∷ ds) c = area_step source (operate_on source area d.bytes d.answer).1 ds c

pub no_rings_on : (source : Source) → Fits source → NoRingsOn source
no_rings_on source fits area h quiet calls = go [] calls
  where
    fresh-area : List ℕ
    fresh-area = (fresh_on source area).1

    go : (before calls : List Call) → Memᴰ 21 (answers_of source (area_after source fresh-area before) calls) → ⊥
    go before [] x' = elim x' [ ]
    go before (c ∷ cs) (Memᴰ.head e) =
        never_21_on source fits area h before c.bytes c.answer
        (λ k. quiet (operation_in c.bytes).subject) (sym e)
    go before (c ∷ cs) (Memᴰ.tail m) =
        go (before ++ (c ∷ [])) cs
        (subst (λ (x : List ℕ). Memᴰ 21 (answers_of source x cs)) (sym (area_step source fresh-area before c)) m)
