-- The same list of calls put to the gate of before and to today's.
use Prim.Native.Nat.{ℕ, zero, suc}
use mathlib.Core.Path.{◌≡◌, refl, sym, ap, ◌∙◌, subst}
use mathlib.Core.Logic.{◌⊎◌, inl, inr}
use mathlib.Core.List.{List, [], ◌∷◌}
use mathlib.Core.Bool.{Bool, true, false, not, cond, ◌&&◌, true≢false}
use native.Mathlib.Omega.{arith}
use lib.ListN.{length}
use lib.Dec.{leb, eqb}
use borrow.Author.Tests.{eqb-true, eq-eqb}
use Rattle.model.specs.Number.{most_number, most_before}
use Rattle.model.specs.State.{State, layout}
use Rattle.model.specs.Operation.{Parsed, read_operation_by, read_operation}
use Rattle.model.specs.Effect.{answer_bytes}
use Rattle.model.specs.Questions as Q
use Rattle.model.specs.ConfigFile.{load}
use Rattle.model.specs.Gate.{or_else, judged, Outcome}
use Rattle.sources.specs.Gate.{Source, config_of, file_source, operate_on}
use Rattle.model.specs.Separation.{Call, after_call}
use Rattle.sources.specs.Separation.{answers_of, area_after}
use Rattle.model.specs.declared.Config.{Config}
use Rattle.model.specs.declared.Operation.{Operation}
use Rattle.model.proofs.Lists.{and_l, and_r, not-true}
use Rattle.model.proofs.Accepted.{load-sound}
use Rattle.model.proofs.OldRecords.{read_stays}
use Rattle.sources.proofs.Answers.{refusal-leaves}
use Rattle.sources.proofs.Sources.{file-fits}
use Rattle.sources.proofs.Stores.{Kept}
use Rattle.model.proofs.Formed.{Formed}
use Rattle.sources.proofs.Calls.{call_area, call_kept}
use Rattle.sources.proofs.Reached.{call_formed, reached_verdict}
use Rattle.continuity.specs.Past.{
  Past,
  load_in,
  coded,
  reading_in,
  judged_in,
  layout_in,
  verdict_in,
  outcome_in,
  operate_in,
  answers_in,
  area_in,
  carried,
}
use Rattle.continuity.specs.Carried.{newly, old_codes, answer_now, answers_now}
use Rattle.continuity.proofs.Judged.{Real, Fit}
use Rattle.continuity.proofs.PastAreas.{load_past, carried-layout}
use Rattle.continuity.proofs.PastCalls.{number_in, operate_in_lem, answer_in, area_in_lem, fit_in, unread_in}
use Rattle.continuity.proofs.Records.{read_number, judged_11, new_11}

-- question 10 answered 0 or 10 before
coded-number : (t : Bool) (r : Parsed) → (r.0 ≡ 0) ⊎ (r.0 ≡ 10) → ((coded t r).0 ≡ 0 → ⊥) → (coded t r).0 ≡ 10
unfolding coded
coded-number true r (inl z) off = absurd (off z)
coded-number true r (inr z) off = z
coded-number false r s off = refl

read_ten : (past : Past) (bytes : List ℕ) → ((reading_in past bytes).0 ≡ 0 → ⊥) → (reading_in past bytes).0 ≡ 10
unfolding reading_in
read_ten past bytes off =
    let r = read_operation_by past.limits.number bytes in
    coded-number (leb r.1.code past.code) r (read_number past.limits.number bytes) off

-- today's answer by the number of question 10, where the older gate answered 8 or 10
abbrev Told : Bool → ℕ → ℕ → Bool → Type 0
Told t r m u = Q.ask 8 u (or_else r m) ≡ cond (not t && eqb r 0 && eqb (Q.ask 8 u 10) 10) 11 (Q.ask 8 u 10)

-- an operation of an old code that only today's gate reads has a number that was too large
new_past : (past : Past) → Real past → (bytes : List ℕ) → ((reading_in past bytes).0 ≡ 0 → ⊥)
    → (read_operation bytes).0 ≡ 0 → leb (read_operation bytes).1.code past.code ≡ true
    → (read_operation_by most_before bytes).0 ≡ 0 → ⊥
unfolding reading_in coded
new_past past real bytes off z code old =
    let few = past.limits.number in
    let s = read_stays most_before few real.enough bytes old in
    let t = read_stays most_before most_number (omega arith) bytes old in
    let e : read_operation bytes ≡ read_operation_by few bytes = t ∙ sym s in
    off (go (read_operation_by few bytes) (ap (λ (r : Parsed). r.0) (sym e) ∙ z)
    (subst (λ (r : Parsed). leb r.1.code past.code ≡ true) e code))
  where
    go : (r : Parsed) → r.0 ≡ 0 → leb r.1.code past.code ≡ true
        → (coded (leb r.1.code past.code) r).0 ≡ 0
    go r z c = ap (λ (t : Bool). (coded t r).0) c ∙ z

module _ (past : Past) (real : Real past) (file : List ℕ) (h : (load_in past file).answer ≡ 0) where
  abbrev src : Source
  src = file_source file

  abbrev cfg : Config
  cfg = config_of src

  -- one call with an operation that could not be read
  module _ (b : State) (kept : Kept src.room cfg b) (formed : Formed src.room cfg b) (fit : Fit past b)
      (bytes answer : List ℕ) (off : (reading_in past bytes).0 ≡ 0 → ⊥)
      (code : leb (read_operation bytes).1.code past.code ≡ true) where
    abbrev now : Outcome
    now = operate_on src (layout b) bytes answer

    abbrev old : Outcome
    old = operate_in past file (layout_in past b) bytes answer

    abbrev enough : Bool
    enough = leb answer_bytes (length answer)

    told : (n : ℕ) (op : Operation) → (outcome_in past src.room n cfg op (layout_in past b) answer).0 ≡ n
    told zero op = refl
    told (suc n) op = refl

    -- it was answered 8 or 10
    was : old.0 ≡ Q.ask 8 enough 10
    was =
        let r = reading_in past bytes in
        ap (λ (x : Outcome). x.0) (operate_in_lem past real file h b kept formed fit bytes answer)
        ∙ (told (or_else (load file).answer (verdict_in past src.room cfg r (layout_in past b) answer)) r.1
        ∙ (number_in past real file h b kept formed fit bytes answer r
        ∙ ap (λ (n : ℕ). Q.ask 8 enough (or_else n (judged_in past cfg r.1 b))) (read_ten past bytes off)))

    is : now.0 ≡ Q.ask 8 enough (or_else (read_operation bytes).0 (judged cfg (read_operation bytes).1 b))
    is =
        reached_verdict src (file-fits file) (load_past past real file h).0 b kept formed (layout b) bytes answer refl

    large : (read_operation bytes).0 ≡ 0 → judged cfg (read_operation bytes).1 b ≡ 11
    large z =
        judged_11 cfg b bytes
        (new_11 cfg (load-sound file (load_past past real file h).0).few bytes z
        (new_past past real bytes off z code))

    answered : now.0 ≡ cond (newly past bytes && eqb old.0 10) 11 old.0
    answered =
        is
        ∙ (go (eqb (reading_in past bytes).0 0) (read_operation bytes).0 (judged cfg (read_operation bytes).1 b)
        enough
        (not-true (eqb (reading_in past bytes).0 0) (λ e. absurd (off (eqb-true (reading_in past bytes).0 0 e))))
        (read_number most_number bytes) large
        ∙ ap (λ (n : ℕ). cond (newly past bytes && eqb n 10) 11 n) (sym was))
      where
        new : (m : ℕ) (u : Bool) → m ≡ 11 → Told false 0 m u
        new m true k = k
        new m false k = refl

        never : (m : ℕ) (u : Bool) → Told false 10 m u
        never m true = refl
        never m false = refl

        go : (t : Bool) (r m : ℕ) (u : Bool) → t ≡ false → (r ≡ 0) ⊎ (r ≡ 10) → (r ≡ 0 → m ≡ 11) → Told t r m u
        go true r m u e s k = absurd (true≢false e)
        go false r m u e (inl z) k = subst (λ (x : ℕ). Told false x m u) (sym z) (new m u (k z))
        go false r m u e (inr z) k = subst (λ (x : ℕ). Told false x m u) (sym z) (never m u)

    refused : now.0 ≡ 0 → ⊥
    refused z = go (read_operation bytes).0 (judged cfg (read_operation bytes).1 b) enough large (sym is ∙ z)
      where
        go : (r m : ℕ) (u : Bool) → (r ≡ 0 → m ≡ 11) → Q.ask 8 u (or_else r m) ≡ 0 → ⊥
        go zero m true k e = absurd (let x = k refl in omega (arith, x, e))
        go (suc r) m true k e = omega arith
        go r m false k e = omega arith

    left : now.1 ≡ layout b
    left = (refusal-leaves src (layout b) bytes answer refused).0

  -- a list
  abbrev Same : State → List Call → Type 0
  Same b calls =
      (area_after src (layout b) calls ≡ carried past (area_in past file (layout_in past b) calls))
      × (answers_of src (layout b) calls ≡ answers_now past calls (answers_in past file (layout_in past b) calls))

  module _ (c : Call) (cs : List Call) (b : State) (kept : Kept src.room cfg b) (formed : Formed src.room cfg b)
      (fit : Fit past b) (code : leb (read_operation c.bytes).1.code past.code ≡ true) where
    abbrev o : Outcome
    o = operate_on src (layout b) c.bytes c.answer

    abbrev next : State
    next = after_call cfg b c.bytes o.0

    abbrev before : Outcome
    before = operate_in past file (layout_in past b) c.bytes c.answer

    joined : (x : State) → o.1 ≡ layout x → before.1 ≡ layout_in past x → o.0 ≡ answer_now past c before.0
        → Same x cs → Same b (c ∷ cs)
    joined x a z n s = (
      ap (λ (l : List ℕ). area_after src l cs) a
          ∙ (s.0 ∙ ap (λ (l : List ℕ). carried past (area_in past file l cs)) (sym z)),
      ap (λ (l : List ℕ). o.0 ∷ l)
          (ap (λ (l : List ℕ). answers_of src l cs) a
          ∙ (s.1 ∙ ap (λ (l : List ℕ). answers_now past cs (answers_in past file l cs)) (sym z)))
          ∙ ap (λ (m : ℕ). m ∷ answers_now past cs (answers_in past file before.1 cs)) n,
    )

    step_same : (t : Bool) → eqb (reading_in past c.bytes).0 0 ≡ t → Same b cs
        → ((reading_in past c.bytes).0 ≡ 0 → Same next cs) → Same b (c ∷ cs)
    step_same true e here further =
        let r = eqb-true (reading_in past c.bytes).0 0 e in
        joined next
        (call_area src (file-fits file) (load_past past real file h).0 b kept (layout b) c.bytes c.answer refl)
        (area_in_lem past real file h b kept formed fit c.bytes c.answer r)
        (sym (answer_in past real file h b kept formed fit c.bytes c.answer r)
        ∙ sym (ap (λ (t : Bool). cond (not t && eqb (read_operation c.bytes).0 0 && eqb before.0 10) 11
        before.0) e))
        (further r)
    step_same false e here further =
        let off : (reading_in past c.bytes).0 ≡ 0 → ⊥ =
        λ r. true≢false (sym (eq-eqb (reading_in past c.bytes).0 0 r) ∙ e) in
        joined b (left b kept formed fit c.bytes c.answer off code)
        (unread_in past file (layout_in past b) c.bytes c.answer off)
        (answered b kept formed fit c.bytes c.answer off code) here

  pub same_in : (calls : List Call) → old_codes past calls ≡ true → (b : State) → Kept src.room cfg b
      → Formed src.room cfg b → Fit past b → Same b calls
  same_in [] codes b kept formed fit = (sym (carried-layout past cfg b kept formed fit), refl)
  same_in (c ∷ cs) codes b kept formed fit =
      let accepted = (load_past past real file h).0 in
      let code = and_l (leb (read_operation c.bytes).1.code past.code) (old_codes past cs) codes in
      let rest = and_r (leb (read_operation c.bytes).1.code past.code) (old_codes past cs) codes in
      step_same c cs b kept formed fit code (eqb (reading_in past c.bytes).0 0) refl
      (same_in cs rest b kept formed fit)
      (λ r. same_in cs rest (next c cs b kept formed fit code)
      (call_kept src (file-fits file) accepted b kept (layout b) c.bytes c.answer refl).0
      (call_formed src (file-fits file) accepted b kept formed (layout b) c.bytes c.answer refl)
      (fit_in past real file h b kept formed fit c.bytes c.answer r))
