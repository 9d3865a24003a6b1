-- Every state that a list of calls leads to from a fresh one is well formed: questions 7 and 9 never refuse there.
use Prim.Native.Nat.{ℕ, zero, suc, ◌≤◌}
use mathlib.Core.Path.{◌≡◌, refl, sym, ap, ◌∙◌, subst}
use mathlib.Core.List.{List, [], ◌∷◌}
use mathlib.Core.Bool.{Bool, true, false, not, ◌&&◌, ◌||◌, cond}
use native.Mathlib.Omega.{arith}
use lib.ListN.{length, get_or, replicate, length-replicate}
use lib.Dec.{leb, eqb}
use borrow.Author.Tests.{eq-eqb, eqb-true, le-leb}
use Rattle.model.specs.Base.{nth}
use Rattle.model.specs.Config.{most_drivers, most_devices, kind_of, class_of, owner_of, hardcoded_of}
use Rattle.model.specs.State.{
  partition_count,
  State,
  plain_status,
  green_status,
  object_in,
  cleared,
  value_bytes,
  area_length,
  same_bytes,
  a_value,
  right_place,
  right_content,
  view,
  layout,
  fresh_content,
  fresh,
  well_formed,
}
use Rattle.model.specs.Operation.{family_of, actor_of, read_operation}
use Rattle.model.specs.Effect.{answer_bytes}
use Rattle.model.specs.Questions.{ask}
use Rattle.model.specs.Gate.{or_else, judged, verdict}
use Rattle.sources.specs.Gate.{Source, config_of, fresh_on, operate_on}
use Rattle.model.specs.Separation.{Call, after_call, state_after, operations_of}
use Rattle.sources.specs.Separation.{answers_of, area_after, initial, final}
use Rattle.model.specs.declared.Config.{Config}
use Rattle.model.proofs.Lists.{nth-zeros, both_true, nth_number}
use Rattle.model.proofs.StateLaws.{view-layout}
use Rattle.sources.proofs.Sources.{Fits}
use Rattle.model.proofs.Facts.{passed}
use Rattle.sources.proofs.Stores.{Kept}
use Rattle.model.proofs.Formed.{Formed, formed_to_lem, same_bytes_lem, value-right}
use Rattle.sources.proofs.FormedMoves.{step_formed}
use Rattle.sources.proofs.Calls.{
  fresh_kept,
  fresh_zero,
  calls_hold,
  call_zero,
  call_answer,
  call_area,
  call_kept,
}
use Rattle.model.proofs.Reached.{layout_length}

assigned_0 : (t : Bool) {u : Bool} → u ≡ true → cond t u true ≡ true
assigned_0 true h = h
assigned_0 false h = refl

pub fresh-formed : (room : ℕ) (config : Config) → Formed room config (fresh room config)
unfolding fresh
fresh-formed room config =
    record {
      status_0 = refl;
      statuses = refl;
      drivers = λ d l k. subst (λ (q : ℕ). cond (leb d config.counts.drivers)
          (eqb q 0 || (eqb (get_or (replicate partition_count 0) q 0) plain_status
          || eqb (get_or (replicate partition_count 0) q 0) green_status)) (eqb q 0) ≡ true)
          (sym (nth-zeros most_drivers d))
          (assigned_0 (leb d config.counts.drivers) refl);
      devices = λ c l k. subst (λ (q : ℕ). cond (leb c config.counts.devices)
          (eqb q 0 || (eqb (get_or (replicate partition_count 0) q 0) plain_status
          || eqb (get_or (replicate partition_count 0) q 0) green_status)) (eqb q 0) ≡ true)
          (sym (nth-zeros most_devices c))
          (assigned_0 (leb c config.counts.devices) refl);
      locks = λ c l k. subst (λ (q : ℕ). eqb q 0
          || (eqb q 1 && leb c config.counts.devices && eqb (nth (replicate most_devices 0) c 0) 0) ≡ true)
          (sym (nth-zeros most_devices c)) refl;
      places = λ n l k. place n;
      contents = λ n l k. subst (λ (c : List ℕ). right_content config n c ≡ true)
          (sym (nth_number (λ n c. fresh_content config n) (replicate room cleared) n cleared l
          (omega (arith, length-replicate room cleared))))
          (right n (leb n config.counts.objects) (eqb (kind_of config n) 4) (eqb (kind_of config n) 1)
          (λ e f. apart n (eqb-true (kind_of config n) 4 e) (eqb-true (kind_of config n) 1 f)));
    }
  where
    zeros : (x y : ℕ) → nth {A = ℕ} (replicate x 0) y 0 ≡ 0
    zeros x y = nth-zeros x y

    place : (n : ℕ) → right_place config (fresh room config) n ≡ true
    place n =
        let o : object_in (fresh room config) n ≡ 0 = zeros room n in
        go o (leb n config.counts.objects)
        (either (eqb (class_of config n) 1) (eq-eqb _ _ (o ∙ sym (zeros most_drivers (owner_of config n)))))
        (either (eqb (class_of config n) 2) (eq-eqb _ _ (o ∙ sym (zeros most_devices (owner_of config n)))))
      where
        either : (t : Bool) {u : Bool} → u ≡ true → not t || u ≡ true
        either true h = h
        either false h = refl

        go : object_in (fresh room config) n ≡ 0 → (t : Bool) {u v : Bool} → u ≡ true → v ≡ true
            → cond t ((eqb (object_in (fresh room config) n) 0
            || (eqb (get_or (replicate partition_count 0) (object_in (fresh room config) n) 0) plain_status
            || eqb (get_or (replicate partition_count 0) (object_in (fresh room config) n) 0) green_status))
            && (u && v))
            (eqb (object_in (fresh room config) n) 0) ≡ true
        go o true h k =
            both_true
            (subst (λ (q : ℕ). eqb q 0 || (eqb (get_or (replicate partition_count 0) q 0) plain_status
            || eqb (get_or (replicate partition_count 0) q 0) green_status) ≡ true) (sym o) refl)
            (both_true h k)
        go o false h k = eq-eqb _ 0 o

    apart : (n : ℕ) → kind_of config n ≡ 4 → kind_of config n ≡ 1 → ⊥
    apart n e f = omega arith

    right : (n : ℕ) (s t u : Bool) → (t ≡ true → u ≡ true → ⊥)
        → cond s ((not u || a_value config
        (cond (s && t) (value_bytes (hardcoded_of config (owner_of config n))) cleared))
        && (not t || same_bytes (cond (s && t) (value_bytes (hardcoded_of config (owner_of config n))) cleared)
        (value_bytes (hardcoded_of config (owner_of config n)))))
        (same_bytes (cond (s && t) (value_bytes (hardcoded_of config (owner_of config n))) cleared) cleared) ≡ true
    right n true true true d = absurd (d refl refl)
    right n true true false d = same_bytes_lem (value_bytes (hardcoded_of config (owner_of config n)))
    right n true false true d = both_true (value-right config 0 (le-leb 0 config.counts.values (omega arith))) refl
    right n true false false d = refl
    right n false t u d = refl

module _ (source : Source) (fits : Fits source) (accepted : source.loaded.answer ≡ 0) where
  abbrev config : Config
  config = config_of source

  abbrev room : ℕ
  room = source.room

  answered-formed : (b : State) → Kept room config b → Formed room config b → (bytes : List ℕ) (n : ℕ)
      → (n ≡ 0 → (well_formed room config b ≡ true) × (judged config (read_operation bytes).1 b ≡ 0))
      → Formed room config (after_call config b bytes n)
  answered-formed b kept formed bytes zero h =
      let op = (read_operation bytes).1 in
      step_formed config (fits.sound accepted) op b kept formed (family_of op.code) (actor_of op.code)
      (passed config b op (family_of op.code) (actor_of op.code) (h refl).1)
  answered-formed b kept formed bytes (suc n) h = formed

  pub call_formed : (b : State) → Kept room config b → Formed room config b → (area bytes answer : List ℕ)
      → area ≡ layout b → Formed room config (after_call config b bytes (operate_on source area bytes answer).0)
  call_formed b kept formed area bytes answer f =
      answered-formed b kept formed bytes (operate_on source area bytes answer).0
      (call_zero source fits accepted b kept area bytes answer f)

  -- in a reached state a call is judged by questions 8 and 10 to 23 alone, on the state
  pub reached_verdict : (b : State) → Kept room config b → Formed room config b → (area bytes answer : List ℕ)
      → area ≡ layout b
      → (operate_on source area bytes answer).0 ≡ ask 8 (leb answer_bytes (length answer))
      (or_else (read_operation bytes).0 (judged config (read_operation bytes).1 b))
  reached_verdict b kept formed area bytes answer f =
      let e : view room area ≡ b = ap (view room) f ∙ view-layout room b kept.shape in
      let h₇ : eqb (length area) (area_length room) ≡ true =
      eq-eqb _ _ (ap length f ∙ layout_length room b kept.shape) in
      let h₉ : well_formed room config (view room area) ≡ true =
      subst (λ (x : State). well_formed room config x ≡ true) (sym e) (formed_to_lem room config b formed) in
      call_answer source area bytes answer
      ∙ (ap (λ (n : ℕ). or_else n (verdict room config (read_operation bytes) area answer)) accepted
      ∙ (ap (λ (t : Bool). ask 7 t (ask 8 (leb answer_bytes (length answer))
      (ask 9 (well_formed room config (view room area))
      (or_else (read_operation bytes).0 (judged config (read_operation bytes).1 (view room area)))))) h₇
      ∙ (ap (λ (t : Bool). ask 8 (leb answer_bytes (length answer))
      (ask 9 t (or_else (read_operation bytes).0
      (judged config (read_operation bytes).1 (view room area))))) h₉
      ∙ ap (λ (x : State). ask 8 (leb answer_bytes (length answer))
      (or_else (read_operation bytes).0 (judged config (read_operation bytes).1 x))) e)))

  calls_formed : (calls : List Call) (b : State) → Kept room config b → Formed room config b → (area : List ℕ)
      → area ≡ layout b → Formed room config (state_after config b (operations_of calls) (answers_of source area calls))
  calls_formed [] b kept formed area f = formed
  calls_formed (c ∷ cs) b kept formed area f =
      let o = operate_on source area c.bytes c.answer in
      calls_formed cs (after_call config b c.bytes o.0)
      (call_kept source fits accepted b kept area c.bytes c.answer f).0
      (call_formed b kept formed area c.bytes c.answer f) o.1
      (call_area source fits accepted b kept area c.bytes c.answer f)

-- what holds of the state after any list of calls from a fresh one
module _ (source : Source) (fits : Fits source) (area : List ℕ) (h : (fresh_on source area).0 ≡ 0)
    (calls : List Call) where
  abbrev reached : State
  reached = final source (fresh_on source area).1 calls

  pub reached_state : Kept source.room (config_of source) reached × Formed source.room (config_of source) reached
      × (area_after source (fresh_on source area).1 calls ≡ layout reached)
  reached_state =
      let q = fresh_zero source area h in
      let k = fresh_kept source.room (config_of source) (fits.roomy q.0) in
      let r = calls_hold source fits q.0 calls (initial source) k (fresh_on source area).1 q.1 in (
        r.end,
        calls_formed source fits q.0 calls (initial source) k (fresh-formed source.room (config_of source))
            (fresh_on source area).1 q.1,
        r.same,
      )

  -- the state after any list of calls from a fresh one is well formed
  pub reached_formed : well_formed source.room (config_of source) reached ≡ true
  reached_formed = formed_to_lem source.room (config_of source) reached reached_state.1

  -- so after any list of calls from a fresh state, a call with an answer area that is long enough is judged by
  -- questions 10 to 23 alone, on the plain book
  pub reached_judged : (bytes answer : List ℕ) → answer_bytes ≤ length answer
      → (operate_on source (area_after source (fresh_on source area).1 calls) bytes answer).0
      ≡ or_else (read_operation bytes).0 (judged (config_of source) (read_operation bytes).1 reached)
  reached_judged bytes answer l =
      let r = reached_state in
      reached_verdict source fits (fresh_zero source area h).0 reached r.0 r.1
      (area_after source (fresh_on source area).1 calls) bytes answer r.2
      ∙ ap
      (λ (t : Bool). ask 8 t (or_else (read_operation bytes).0
      (judged (config_of source) (read_operation bytes).1 reached)))
      (le-leb answer_bytes (length answer) l)
