-- A list of calls: the area follows the plain book, and what separation needs is kept from call to call.
use Prim.Native.Nat.{ℕ, zero, suc, ◌≤◌}
use mathlib.Core.Path.{◌≡◌, refl, sym, ap, ◌∙◌, subst}
use mathlib.Core.List.{List, [], ◌∷◌}
use mathlib.Core.Bool.{Bool, true, cond}
use native.Mathlib.Omega.{arith}
use lib.ListN.{length, replicate, length-replicate}
use lib.Dec.{leb, eqb}
use borrow.Author.Tests.{eq-eqb}
use Rattle.model.specs.Base.{nth}
use Rattle.model.specs.Config.{most_devices, kind_of, owner_of, hardcoded_of, descriptor}
use Rattle.model.specs.State.{State, cleared, value_bytes, view, layout, fresh_content, fresh, well_formed, area_length}
use Rattle.model.specs.Operation.{family_of, actor_of, read_operation}
use Rattle.model.specs.declared.Family.{Family}
use Rattle.model.specs.declared.Family.TheVariants.{Write, Copy, Create, Destroy, Activate, Deactivate, Lock, Unlock}
use Rattle.model.specs.declared.Actor.{Actor}
use Rattle.model.specs.Effect.{answer_bytes, apply}
use Rattle.model.specs.Gate.{or_else, fresh_after, fresh_answer, applied, judged, verdict, outcome}
use Rattle.sources.specs.Gate.{Source, config_of, fresh_on, operate_on}
use Rattle.model.specs.Separation.{Call, after_call, state_after, Clearing, EachCall, operations_of}
use Rattle.sources.specs.Separation.{answers_of, area_after, initial}
use Rattle.model.specs.declared.Config.{Config}
use Rattle.model.specs.declared.Operation.{Operation}
use Rattle.model.proofs.Lists.{nth-zeros, and_r, both_true, not_eqb, from1to-low, from1to-high, nth_number}
use Rattle.model.proofs.ClosureLaws.{reads-active}
use Rattle.model.proofs.StateLaws.{view-layout, fresh_shape}
use Rattle.model.proofs.Accepted.{Sound}
use Rattle.model.proofs.Facts.{asked, Passed, passed, upto18}
use Rattle.sources.proofs.Sources.{Fits}
use Rattle.sources.proofs.Stores.{Kept}
use Rattle.sources.proofs.StoresKept.{write_kept, copy_kept, create_kept, destroy_kept, lock-kept, unlock_kept}
use Rattle.sources.proofs.Activation.{activate_kept, activate_clears}
use Rattle.sources.proofs.Deactivation.{deactivate_kept, deactivate_clears}
use Rattle.model.proofs.Calls.{or_else_zero}

-- one accepted operation
module _ {room : ℕ} (config : Config) (sound : Sound config) (op : Operation) (b : State) (kept : Kept room config b)
    (formed : well_formed room config b ≡ true) where
  step_kept : (f : Family) (a : Actor) → Passed config b op f a → Kept room config (apply config op f a b)
  step_kept Write a p = write_kept config op b kept a p
  step_kept Copy a p = copy_kept config op b kept a p
  step_kept Create a p = create_kept config sound op b kept formed a p
  step_kept Destroy a p = destroy_kept config sound op b kept a
  step_kept Activate a p = activate_kept config sound op b kept formed a p
  step_kept Deactivate a p = deactivate_kept config sound op b kept a p
  step_kept Lock a p = lock-kept config sound op b kept a
  step_kept Unlock a p = unlock_kept config sound op b kept a

  step_clears : (f : Family) (a : Actor) → Passed config b op f a → Clearing config b (apply config op f a b)
  unfolding apply
  step_clears Write a p n z y k = absurd (y z)
  step_clears Copy a p n z y k = absurd (y z)
  step_clears Create a p n z y k = absurd (y z)
  step_clears Destroy a p n z y k = absurd (y z)
  step_clears Activate a p n z y k = activate_clears config sound op b kept formed a (upto18 p) n z y k
  step_clears Deactivate a p n z y k = deactivate_clears config sound op b kept a p n z y k
  step_clears Lock a p n z y k = absurd (y z)
  step_clears Unlock a p n z y k = absurd (y z)

-- a fresh state: nothing is active
pub fresh_kept : (room : ℕ) (config : Config) → config.counts.objects ≤ room → Kept room config (fresh room config)
unfolding fresh
fresh_kept room config fits =
    record {
      roomy = fits;
      shape = fresh_shape room config;
      hardcoded = λ n x k.
          nth_number (λ n c. fresh_content config n) (replicate room cleared) n cleared
          (from1to-low n config.counts.objects x)
          (omega (arith, from1to-high n config.counts.objects x, fits, length-replicate room cleared))
          ∙ ap (λ (t : Bool). cond t (value_bytes (hardcoded_of config (owner_of config n))) cleared)
          (both_true (and_r (leb 1 n) (leb n config.counts.objects) x) (eq-eqb (kind_of config n) 4 k));
      together = λ c x h. nth-zeros room x ∙ sym (nth-zeros most_devices c);
      confines = λ c o v r e m. absurd (not_eqb (nth (replicate most_devices 0) c 0) 0 (reads-active r)
          (nth-zeros most_devices c));
      greens = λ o l g. absurd (not_eqb (nth (replicate room 0) o 0) 0 (and_r (descriptor config o) _ l)
          (nth-zeros room o));
    }

-- one call, on the area that a kept state shows
module _ {room : ℕ} (config : Config) (sound : Sound config) (b : State)
    (kept : Kept room config b) (bytes : List ℕ) where
  answered-kept : (n : ℕ)
      → (n ≡ 0 → (well_formed room config b ≡ true) × (judged config (read_operation bytes).1 b ≡ 0))
      → Kept room config (after_call config b bytes n) × Clearing config b (after_call config b bytes n)
  answered-kept zero h =
      let op = (read_operation bytes).1 in
      let q = h refl in
      let p = passed config b op (family_of op.code) (actor_of op.code) q.1 in (
        step_kept config sound op b kept q.0 (family_of op.code) (actor_of op.code) p,
        step_clears config sound op b kept q.0 (family_of op.code) (actor_of op.code) p,
      )
  answered-kept (suc n) h = (kept, λ n z y k. absurd (y z))

  -- answer 0 means that questions 9 to 23 were answered yes
  pub verdict_zero : (area answer : List ℕ) → view room area ≡ b
      → verdict room config (read_operation bytes) area answer ≡ 0
      → (well_formed room config b ≡ true) × (judged config (read_operation bytes).1 b ≡ 0)
  verdict_zero area answer e h =
      let h₇ = asked 6 (eqb (length area) (area_length room)) _ h in
      let h₈ = asked 7 (leb answer_bytes (length answer)) _ h₇.1 in
      let h₉ = asked 8 (well_formed room config (view room area)) _ h₈.1 in
      let h₁₀ = or_else_zero (read_operation bytes).0 _ h₉.1 in (
        subst (λ (x : State). well_formed room config x ≡ true) e h₉.0,
        subst (λ (x : State). judged config (read_operation bytes).1 x ≡ 0) e h₁₀.1,
      )

  left-area : (n : ℕ) (area answer : List ℕ) → view room area ≡ b → area ≡ layout b
      → (outcome room n config (read_operation bytes).1 area answer).1
      ≡ layout (after_call config b bytes n)
  left-area zero area answer e f = ap (λ (x : State). layout (applied config (read_operation bytes).1 x)) e
  left-area (suc n) area answer e f = f

pub outcome-answer : (room n : ℕ) (config : Config) (op : Operation) (area answer : List ℕ)
    → (outcome room n config op area answer).0 ≡ n
outcome-answer room zero config op area answer = refl
outcome-answer room (suc n) config op area answer = refl

-- a call's answer, whatever was loaded
pub call_answer : (source : Source) (area bytes answer : List ℕ)
    → (operate_on source area bytes answer).0
    ≡ or_else source.loaded.answer (verdict source.room (config_of source) (read_operation bytes) area answer)
unfolding operate_on
call_answer source area bytes answer =
    outcome-answer source.room _ (config_of source) (read_operation bytes).1 area answer

-- a list of calls
module _ (source : Source) (fits : Fits source) (accepted : source.loaded.answer ≡ 0) where
  abbrev config : Config
  config = config_of source

  abbrev room : ℕ
  room = source.room

  abbrev sound : Sound config
  sound = fits.sound accepted

  abbrev answer_of : List ℕ → List ℕ → List ℕ → ℕ
  answer_of area bytes answer =
      or_else source.loaded.answer (verdict room config (read_operation bytes) area answer)

  -- the area of a kept state shows it
  shows : (b : State) → Kept room config b → (area : List ℕ) → area ≡ layout b → view room area ≡ b
  shows b kept area f = ap (view room) f ∙ view-layout room b kept.shape

  pub call_area : (b : State) → Kept room config b → (area bytes answer : List ℕ) → area ≡ layout b
      → (operate_on source area bytes answer).1
      ≡ layout (after_call config b bytes (operate_on source area bytes answer).0)
  unfolding operate_on
  call_area b kept area bytes answer f =
      left-area config sound b kept bytes (answer_of area bytes answer) area answer (shows b kept area f) f
      ∙ ap (λ (n : ℕ). layout (after_call config b bytes n)) (sym (call_answer source area bytes answer))

  -- answer 0 means that questions 9 to 23 were answered yes
  pub call_zero : (b : State) → Kept room config b → (area bytes answer : List ℕ) → area ≡ layout b
      → (operate_on source area bytes answer).0 ≡ 0
      → (well_formed room config b ≡ true) × (judged config (read_operation bytes).1 b ≡ 0)
  call_zero b kept area bytes answer f z =
      verdict_zero config sound b kept bytes area answer (shows b kept area f)
      (or_else_zero source.loaded.answer _ (sym (call_answer source area bytes answer) ∙ z)).1

  pub call_kept : (b : State) → Kept room config b → (area bytes answer : List ℕ) → area ≡ layout b
      → Kept room config (after_call config b bytes (operate_on source area bytes answer).0)
      × Clearing config b (after_call config b bytes (operate_on source area bytes answer).0)
  call_kept b kept area bytes answer f =
      answered-kept config sound b kept bytes (operate_on source area bytes answer).0
      (call_zero b kept area bytes answer f)

  pub record Holds (b : State) (area : List ℕ) (calls : List Call) : Type 0 where
    pub same : area_after source area calls
        ≡ layout (state_after config b (operations_of calls) (answers_of source area calls))
    pub each : EachCall config b (operations_of calls) (answers_of source area calls)
    pub end : Kept room config (state_after config b (operations_of calls) (answers_of source area calls))

  pub calls_hold : (calls : List Call) (b : State) → Kept room config b → (area : List ℕ) → area ≡ layout b
      → Holds b area calls
  calls_hold [] b kept area f = record { same = f; each = tt; end = kept }
  calls_hold (c ∷ cs) b kept area f =
      let k = call_kept b kept area c.bytes c.answer f in
      let o = operate_on source area c.bytes c.answer in
      let r = calls_hold cs (after_call config b c.bytes o.0) k.0 o.1
      (call_area b kept area c.bytes c.answer f) in
      record { same = r.same; each = (k.1, k.0.hardcoded, r.each); end = r.end }

-- the area that making a fresh state left
pub fresh_zero : (source : Source) (area : List ℕ) → (fresh_on source area).0 ≡ 0
    → (source.loaded.answer ≡ 0) × ((fresh_on source area).1 ≡ layout (initial source))
unfolding fresh_on
fresh_zero source area h =
    ((or_else_zero source.loaded.answer _ h).0, go (fresh_answer source.room source.loaded area) h)
  where
    go : (n : ℕ) → n ≡ 0 → fresh_after source.room n (config_of source) area ≡ layout (initial source)
    go zero z = refl
    go (suc n) z = absurd (omega arith)
