-- A list of calls of the gate of before: today's gate answers the same, and its area is the older one, carried over.
use Prim.Native.Nat.{ℕ, zero, suc, ◌≤◌}
use mathlib.Core.Path.{◌≡◌, refl, sym, ap, ◌∙◌, subst}
use mathlib.Core.List.{List, [], ◌∷◌, ◌++◌}
use mathlib.Core.Bool.{Bool, true, false, cond, true≢false}
use native.Mathlib.Omega.{arith}
use lib.ListN.{length, replicate, length-append}
use lib.Dec.{leb, eqb}
use borrow.Author.Tests.{le-leb, eqb-true, eq-eqb}
use Rattle.model.specs.Base.{all}
use Rattle.model.specs.ConfigFile.{load}
use Rattle.model.specs.State.{State, partition_count, records, area_length, layout, fresh}
use Rattle.model.specs.Older.{no_locks, older_length}
use Rattle.model.specs.Operation.{Parsed, family_of, read_operation}
use Rattle.model.specs.Effect.{answer_bytes, answered}
use Rattle.model.specs.Questions as Q
use Rattle.model.specs.Gate.{or_else, applied, Outcome, verdict, outcome}
use Rattle.sources.specs.Gate.{Source, config_of, file_source, fresh_on, operate_on}
use Rattle.model.specs.Separation.{Call, after_call}
use Rattle.sources.specs.Separation.{answers_of, area_after, initial}
use Rattle.model.specs.declared.Config.{Config}
use Rattle.model.specs.Loaded.{Loaded}
use Rattle.model.proofs.Lists.{both_true}
use Rattle.model.proofs.StateLaws.{view-layout}
use Rattle.model.proofs.Accepted.{load-sound}
use Rattle.sources.proofs.Stores.{Kept}
use Rattle.model.proofs.Formed.{Formed}
use Rattle.sources.proofs.Sources.{file-fits}
use Rattle.model.proofs.Calls.{or_else_zero}
use Rattle.sources.proofs.Calls.{outcome-answer, call_area, call_kept}
use Rattle.sources.proofs.Reached.{call_formed, reached_verdict}
use Rattle.model.proofs.Facts.{asked}
use Rattle.continuity.specs.Past.{
  Past,
  load_in,
  reading_in,
  judged_in,
  length_in,
  view_in,
  layout_in,
  formed_in,
  fresh_in,
  fresh_answer_in,
  fresh_after_in,
  verdict_in,
  outcome_in,
  operated_in,
  operate_in,
  answers_in,
  area_in,
  carried,
  keep,
  readable,
  answers_read,
}
use Rattle.continuity.proofs.Judged.{Real, Fit, judge-same, fit_after}
use Rattle.continuity.proofs.PastAreas.{load_past, read_past, carried-layout, length_in_lem, view_in_lem, formed_in_lem}

-- one call
module _ (past : Past) (real : Real past) (file : List ℕ) (h : (load_in past file).answer ≡ 0) where
  abbrev source : Source
  source = file_source file

  abbrev config : Config
  config = config_of source

  abbrev room : ℕ
  room = source.room

  abbrev loaded : (load file).answer ≡ 0
  loaded = (load_past past real file h).0

  module _ (b : State) (kept : Kept room config b) (formed : Formed room config b) (fit : Fit past b)
      (bytes answer : List ℕ) where
    abbrev now : Outcome
    now = operate_on source (layout b) bytes answer

    -- questions 7 to 10, in a state that calls led to
    verdict_in_lem : (r : Parsed) → verdict_in past room config r (layout_in past b) answer
        ≡ Q.ask 8 (leb answer_bytes (length answer)) (or_else r.0 (judged_in past config r.1 b))
    verdict_in_lem r =
        let rest : State → ℕ = λ x. or_else r.0 (judged_in past config r.1 x) in
        let e₇ : eqb (length (layout_in past b)) (length_in past room) ≡ true =
        eq-eqb _ _ (length_in_lem past config b kept formed fit) in
        let v = view_in_lem past config b kept formed fit in
        let e₉ : formed_in past room config (view_in past room (layout_in past b)) ≡ true =
        subst (λ (x : State). formed_in past room config x ≡ true) (sym v)
        (formed_in_lem past config b kept formed fit) in
        ap (λ (t : Bool). Q.ask 7 t (Q.ask 8 (leb answer_bytes (length answer))
        (Q.ask 9 (formed_in past room config (view_in past room (layout_in past b)))
        (rest (view_in past room (layout_in past b)))))) e₇
        ∙ (ap (λ (t : Bool). Q.ask 8 (leb answer_bytes (length answer))
        (Q.ask 9 t (rest (view_in past room (layout_in past b))))) e₉
        ∙ ap (λ (x : State). Q.ask 8 (leb answer_bytes (length answer)) (rest x)) v)

    -- the whole call on what today's gate loads
    pub operate_in_lem : operate_in past file (layout_in past b) bytes answer
        ≡ operated_in past room (load file) (reading_in past bytes) (layout_in past b) answer
    unfolding operate_in
    operate_in_lem =
        ap (λ (l : Loaded). operated_in past (records l.config) l (reading_in past bytes) (layout_in past b) answer)
        (load_past past real file h).1

    -- the number of a call's answer
    pub number_in : (r : Parsed)
        → or_else (load file).answer (verdict_in past room config r (layout_in past b) answer)
        ≡ Q.ask 8 (leb answer_bytes (length answer)) (or_else r.0 (judged_in past config r.1 b))
    number_in r =
        ap (λ (n : ℕ). or_else n (verdict_in past room config r (layout_in past b) answer)) loaded ∙ verdict_in_lem r

    -- a record that could be read is answered as before
    number_same : ((read_operation bytes).1.code ≤ past.code)
        → or_else (load file).answer (verdict_in past room config (read_operation bytes) (layout_in past b) answer)
        ≡ now.0
    number_same low =
        number_in (read_operation bytes)
        ∙ (ap (λ (n : ℕ). Q.ask 8 (leb answer_bytes (length answer)) (or_else (read_operation bytes).0 n))
        (judge-same past real config (load-sound file loaded) b kept formed fit (load_past past real file h).2
        (read_operation bytes).1 low)
        ∙ sym (reached_verdict source (file-fits file) loaded b kept formed (layout b) bytes answer refl))

    left_in : (n : ℕ) → (outcome_in past room n config (read_operation bytes).1 (layout_in past b) answer).1
        ≡ layout_in past (after_call config b bytes n)
    left_in zero =
        ap (λ (x : State). layout_in past (applied config (read_operation bytes).1 x))
        (view_in_lem past config b kept formed fit)
    left_in (suc n) = refl

    told_in : (n : ℕ) → (outcome_in past room n config (read_operation bytes).1 (layout_in past b) answer).0 ≡ n
    told_in zero = refl
    told_in (suc n) = refl

    put_in : (n : ℕ) → (outcome_in past room n config (read_operation bytes).1 (layout_in past b) answer).2
        ≡ (outcome room n config (read_operation bytes).1 (layout b) answer).2
    put_in zero =
        let op = (read_operation bytes).1 in
        ap (λ (x : State). answered op (family_of op.code) x answer)
        (view_in_lem past config b kept formed fit ∙ sym (view-layout room b kept.shape))
    put_in (suc n) = refl

    now_put : now.2 ≡ (outcome room now.0 config (read_operation bytes).1 (layout b) answer).2
    unfolding operate_on
    now_put =
        let n = or_else (load file).answer (verdict room config (read_operation bytes) (layout b) answer) in
        ap (λ (x : ℕ). (outcome room x config (read_operation bytes).1 (layout b) answer).2)
        {x = n} (sym (outcome-answer room n config (read_operation bytes).1 (layout b) answer))

    -- a record that could be read: answer, area and answer area
    module _ (readable : (reading_in past bytes).0 ≡ 0) where
      whole : operate_in past file (layout_in past b) bytes answer
          ≡ outcome_in past room now.0 config (read_operation bytes).1 (layout_in past b) answer
      whole =
          let q = read_past past real bytes readable in
          operate_in_lem
          ∙ (ap (λ (r : Parsed). operated_in past room (load file) r (layout_in past b) answer) q.0
          ∙ ap (λ (n : ℕ). outcome_in past room n config (read_operation bytes).1 (layout_in past b) answer)
          (number_same q.2))

      pub answer_in : (operate_in past file (layout_in past b) bytes answer).0 ≡ now.0
      answer_in = ap (λ (x : Outcome). x.0) whole ∙ told_in now.0

      pub area_in_lem : (operate_in past file (layout_in past b) bytes answer).1
          ≡ layout_in past (after_call config b bytes now.0)
      area_in_lem = ap (λ (x : Outcome). x.1) whole ∙ left_in now.0

      pub read_in : (operate_in past file (layout_in past b) bytes answer).2 ≡ now.2
      read_in = ap (λ (x : Outcome). x.2) whole ∙ (put_in now.0 ∙ sym now_put)

      pub fit_in : Fit past (after_call config b bytes now.0)
      fit_in = go now.0
        where
          go : (n : ℕ) → Fit past (after_call config b bytes n)
          go zero =
              fit_after past real config (load-sound file loaded) b kept formed fit (load_past past real file h).2
              (read_operation bytes).1 (read_past past real bytes readable).2
          go (suc n) = fit

-- a record that could not be read left the area
pub unread_in : (past : Past) (file area bytes answer : List ℕ) → ((reading_in past bytes).0 ≡ 0 → ⊥)
    → (operate_in past file area bytes answer).1 ≡ area
unfolding operate_in
unread_in past file area bytes answer off =
    let l = load_in past file in
    let room = records l.config in
    let r = reading_in past bytes in
    go (or_else l.answer (verdict_in past room l.config r area answer))
    (λ z. asked_no (eqb (length area) (length_in past room)) (leb answer_bytes (length answer))
    (formed_in past room l.config (view_in past room area)) r.0 _ off (or_else_zero l.answer _ z).1)
  where
    asked_no : (t u v : Bool) (n m : ℕ) → (n ≡ 0 → ⊥) → Q.ask 7 t (Q.ask 8 u (Q.ask 9 v (or_else n m))) ≡ 0 → ⊥
    asked_no true true true zero m k e = k refl
    asked_no true true true (suc n) m k e = omega arith
    asked_no true true false n m k e = omega arith
    asked_no true false v n m k e = omega arith
    asked_no false u v n m k e = omega arith

    go : (n : ℕ) → (n ≡ 0 → ⊥)
        → (outcome_in past (records (load_in past file).config) n (load_in past file).config (reading_in past bytes).1
        area answer).1 ≡ area
    go zero k = absurd (k refl)
    go (suc n) k = refl

-- a list of calls
module _ (past : Past) (real : Real past) (file : List ℕ) (h : (load_in past file).answer ≡ 0) where
  abbrev src : Source
  src = file_source file

  abbrev cfg : Config
  cfg = config_of src

  abbrev Same : State → List Call → Type 0
  Same b calls =
      (area_after src (layout b) (readable past calls) ≡ carried past (area_in past file (layout_in past b) calls))
      × (answers_of src (layout b) (readable past calls)
      ≡ answers_read past calls (answers_in past file (layout_in past b) calls))

  -- one call more
  module _ (c : Call) (cs : List Call) (b : State) (kept : Kept src.room cfg b) (formed : Formed src.room cfg b)
      (fit : Fit past b) where
    abbrev o : Outcome
    o = operate_on src (layout b) c.bytes c.answer

    abbrev next : State
    next = after_call cfg b c.bytes o.0

    abbrev old : Outcome
    old = operate_in past file (layout_in past b) c.bytes c.answer

    step_in : (t : Bool) → eqb (reading_in past c.bytes).0 0 ≡ t → Same b cs
        → ((reading_in past c.bytes).0 ≡ 0 → Same next cs)
        → (area_after src (layout b) (keep t c (readable past cs)) ≡ carried past (area_in past file old.1 cs))
        × (answers_of src (layout b) (keep t c (readable past cs))
        ≡ keep t old.0 (answers_read past cs (answers_in past file old.1 cs)))
    step_in true e here further =
        let r = eqb-true (reading_in past c.bytes).0 0 e in
        let accepted = (load_past past real file h).0 in
        let there = further r in
        let a : o.1 ≡ layout next =
        call_area src (file-fits file) accepted b kept (layout b) c.bytes c.answer refl in
        let z : old.1 ≡ layout_in past next = area_in_lem past real file h b kept formed fit c.bytes c.answer r in
        let n : old.0 ≡ o.0 = answer_in past real file h b kept formed fit c.bytes c.answer r in (
          ap (λ (x : List ℕ). area_after src x (readable past cs)) a
              ∙ (there.0 ∙ ap (λ (x : List ℕ). carried past (area_in past file x cs)) (sym z)),
          ap (λ (l : List ℕ). o.0 ∷ l)
              (ap (λ (x : List ℕ). answers_of src x (readable past cs)) a
              ∙ (there.1 ∙ ap (λ (x : List ℕ). answers_read past cs (answers_in past file x cs)) (sym z)))
              ∙ ap (λ (m : ℕ). m ∷ answers_read past cs (answers_in past file old.1 cs)) (sym n),
        )
    step_in false e here further =
        let z : old.1 ≡ layout_in past b =
        unread_in past file (layout_in past b) c.bytes c.answer
        (λ r. true≢false (sym (eq-eqb (reading_in past c.bytes).0 0 r) ∙ e)) in (
          here.0 ∙ ap (λ (x : List ℕ). carried past (area_in past file x cs)) (sym z),
          here.1 ∙ ap (λ (x : List ℕ). answers_read past cs (answers_in past file x cs)) (sym z),
        )

  pub calls_in_lem : (calls : List Call) (b : State) → Kept src.room cfg b → Formed src.room cfg b → Fit past b
      → Same b calls
  calls_in_lem [] b kept formed fit = (sym (carried-layout past cfg b kept formed fit), refl)
  calls_in_lem (c ∷ cs) b kept formed fit =
      let accepted = (load_past past real file h).0 in
      step_in c cs b kept formed fit (eqb (reading_in past c.bytes).0 0) refl (calls_in_lem cs b kept formed fit)
      (λ r. calls_in_lem cs (next c cs b kept formed fit)
      (call_kept src (file-fits file) accepted b kept (layout b) c.bytes c.answer refl).0
      (call_formed src (file-fits file) accepted b kept formed (layout b) c.bytes c.answer refl)
      (fit_in past real file h b kept formed fit c.bytes c.answer r))

-- making a fresh state
all-zeros : (p : ℕ → Bool) (n : ℕ) → p 0 ≡ true → all p (replicate n 0) ≡ true
all-zeros p zero z = refl
all-zeros p (suc n) z = both_true z (all-zeros p n z)

module _ (past : Past) (real : Real past) (file area : List ℕ) where
  pub fresh_fit : (room : ℕ) (config : Config) → Fit past (fresh room config)
  unfolding fresh
  fresh_fit room config =
      record {
        lockless = λ e. refl;
        plain = all-zeros (λ s. leb s past.status) partition_count (le-leb 0 past.status (omega arith));
      }

  pub fresh_past : (fresh_in past file area).0 ≡ 0
      → ((load_in past file).answer ≡ 0) × ((fresh_on (file_source file) (carried past area)).0 ≡ 0)
      × ((fresh_in past file area).1 ≡ layout_in past (initial (file_source file)))
  unfolding fresh_in fresh_on
  fresh_past z =
      let l = load_in past file in
      let p = or_else_zero l.answer _ z in
      let e = load_past past real file p.0 in
      let q = asked 6 (eqb (length area) (length_in past (records l.config))) 0 p.1 in
      let n : length area ≡ length_in past (records l.config) = eqb-true _ _ q.0 in
      let m : length (carried past area) ≡ area_length (records (load file).config) =
      long (records (load file).config) (n ∙ ap (λ (x : Loaded). length_in past (records x.config)) e.1) in (
        p.0,
        ap (λ (x : ℕ). or_else x (Q.ask 7 (eqb (length (carried past area)) (area_length (records (load file).config)))
            0)) e.0
            ∙ ap (λ (t : Bool). Q.ask 7 t 0) (eq-eqb _ _ m),
        left (fresh_answer_in past (records l.config) l area) z
            ∙ ap (λ (x : Loaded). layout_in past (fresh (records x.config) x.config)) e.1,
      )
    where
      long : (room : ℕ) → length area ≡ length_in past room → length (carried past area) ≡ area_length room
      long room = go past.locks
        where
          go : (t : Bool) → length area ≡ cond t (area_length room) (older_length room)
              → length (cond t area (area ++ no_locks)) ≡ area_length room
          go true n = n
          go false n = omega (arith, n, length-append area no_locks)

      left : (n : ℕ) → n ≡ 0
          → fresh_after_in past (records (load_in past file).config) n (load_in past file).config area
          ≡ layout_in past (fresh (records (load_in past file).config) (load_in past file).config)
      left zero e = refl
      left (suc n) e = absurd (omega arith)
