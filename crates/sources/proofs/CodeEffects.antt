-- What an accepted call sets, code by code, and that all else stays.
use Prim.Native.Nat.{ℕ, zero, suc, ◌≤◌}
use mathlib.Core.Path.{◌≡◌, refl, sym, ap, ◌∙◌, subst}
use mathlib.Core.Logic.{⊎_elim}
use mathlib.Core.List.{List}
use mathlib.Core.Bool.{true, not, cond, ◌&&◌, ◌||◌}
use native.Mathlib.Omega.{arith}
use lib.Dec.{eqb}
use Rattle.model.specs.Config.{from1to}
use Rattle.model.specs.State.{most_partition, State, plain_status, green_status, view, layout}
use Rattle.model.specs.Operation.{family_of, actor_of, green_code, lock_code, unlock_code, read_operation}
use Rattle.model.specs.Effect.{created_status, apply}
use Rattle.model.specs.Questions.{q11, names_partition, actor_exists}
use Rattle.model.specs.Gate.{or_else, applied, verdict, outcome}
use Rattle.sources.specs.Gate.{Source, config_of, file_source, fresh_on, operate_on}
use Rattle.sources.specs.Separation.{area_after, final}
use Rattle.sources.specs.CodeEffects.{
  StoresItems,
  CopiesSources,
  SetsStatus,
  SetsLock,
  Activates,
  Deactivates,
  Effects,
  CallEffectsOn,
  CallEffects,
  BookEffectsOn,
  BookEffects,
}
use Rattle.model.specs.declared.Family.{Family}
use Rattle.model.specs.declared.Family.TheVariants.{Create, Destroy, Activate, Deactivate, Lock, Unlock}
use Rattle.model.specs.declared.Actor.{Actor}
use Rattle.model.specs.declared.Actor.TheVariants.{Driver, Device, External}
use Rattle.model.specs.declared.Config.{Config}
use Rattle.model.specs.declared.Operation.{Operation}
use Rattle.model.proofs.Lists.{and_l, and_r}
use Rattle.model.proofs.StateLaws.{Shape, apply_shape, view-layout}
use Rattle.sources.proofs.StateLaws.{view_shape}
use Rattle.model.proofs.Columns.{or_else_lem}
use Rattle.model.proofs.Accepted.{Sound}
use Rattle.model.proofs.Facts.{Passed, passed}
use Rattle.model.proofs.Formed.{items_exist}
use Rattle.model.proofs.Moves.{actor_exists_lem}
use Rattle.sources.proofs.Sources.{Fits, file-fits}
use Rattle.sources.proofs.Answers.{answer-zero}
use Rattle.sources.proofs.Calls.{call_answer, call_zero, fresh_zero}
use Rattle.sources.proofs.Reached.{reached_state}
use Rattle.sources.proofs.CodeRows.{write-row, copy-row, status-row, lock-row, in_row, out_row}

-- code by code
module _ {room : ℕ} (config : Config) (sound : Sound config) (fits : config.counts.objects ≤ room) (op : Operation)
    (b : State) (sh : Shape room b) where
  named-partition : (f : Family) (a : Actor) → names_partition f a ≡ true → q11 config op f a ≡ true
      → from1to op.partition most_partition ≡ true
  unfolding q11
  named-partition f a e h =
      or_else_lem (names_partition f a) (from1to op.partition most_partition)
      (and_r (actor_exists config a op.subject) _ (and_l (actor_exists config a op.subject
      && (not (names_partition f a) || from1to op.partition most_partition)) _ h)) e

  module _ (passed : Passed config b op (family_of op.code) (actor_of op.code)) where
    at_code : (k : ℕ) (P : State → Type 0) → op.code ≡ k
        → (Passed config b op (family_of k) (actor_of k) → P (apply config op (family_of k) (actor_of k) b))
        → P (applied config op b)
    at_code k P c g =
        subst (λ (x : ℕ). P (apply config op (family_of x) (actor_of x) b)) (sym c)
        (g (subst (λ (x : ℕ). Passed config b op (family_of x) (actor_of x)) c passed))

    created : (k s : ℕ) → op.code ≡ k → cond (eqb k green_code) green_status plain_status ≡ s → (a : Actor)
        → Passed config b op Create a → SetsStatus op s b (apply config op Create a b)
    unfolding apply
    created k s c e a p =
        subst (λ (x : ℕ). SetsStatus op x b (apply config op Create a b))
        (ap (λ (x : ℕ). cond (eqb x green_code) green_status plain_status) c ∙ e)
        (status-row config sound fits op b sh (created_status op) (named-partition Create a refl p.p11))

    destroyed : (a : Actor) → Passed config b op Destroy a → SetsStatus op 2 b (apply config op Destroy a b)
    unfolding apply
    destroyed a p = status-row config sound fits op b sh 2 (named-partition Destroy a refl p.p11)

    comes : (a : Actor) → Passed config b op Activate a → Activates config op a b (apply config op Activate a b)
    comes a p =
        in_row config sound fits op b sh a (actor_exists_lem config op Activate a p.p11)
        (items_exist config op Activate a p.p11)

    goes : (a : Actor) → Passed config b op Deactivate a → Deactivates config op a b (apply config op Deactivate a b)
    goes a p =
        out_row config sound fits op b sh a (actor_exists_lem config op Deactivate a p.p11)
        (items_exist config op Deactivate a p.p11)

    locked : Passed config b op Lock Device → SetsLock op 1 b (apply config op Lock Device b)
    unfolding apply
    locked p = lock-row config sound fits op b sh 1 (actor_exists_lem config op Lock Device p.p11)

    unlocked : Passed config b op Unlock Device → SetsLock op 0 b (apply config op Unlock Device b)
    unfolding apply
    unlocked p = lock-row config sound fits op b sh 0 (actor_exists_lem config op Unlock Device p.p11)

    pub operation_effects : Effects config op b (applied config op b)
    operation_effects =
        record {
          write = λ c. ⊎_elim (λ e. at_code 1 (StoresItems op b) e (write-row config sound fits op b sh Driver))
              (λ e. at_code 2 (StoresItems op b) e (write-row config sound fits op b sh Device)) c;
          copy = λ c. ⊎_elim (λ e. at_code 3 (CopiesSources op b) e (copy-row config sound fits op b sh Driver))
              (λ e. at_code 4 (CopiesSources op b) e (copy-row config sound fits op b sh Device)) c;
          create = λ c. at_code 5 (SetsStatus op plain_status b) c (created 5 plain_status c refl External);
          destroy = λ c. at_code 6 (SetsStatus op 2 b) c (destroyed External);
          driver_in_lem = λ c. at_code 7 (Activates config op Driver b) c (comes Driver);
          device_in_lem = λ c. at_code 8 (Activates config op Device b) c (comes Device);
          objects_in = λ c. at_code 9 (Activates config op External b) c (comes External);
          driver_out = λ c. at_code 10 (Deactivates config op Driver b) c (goes Driver);
          device_out = λ c. at_code 11 (Deactivates config op Device b) c (goes Device);
          objects_out = λ c. at_code 12 (Deactivates config op External b) c (goes External);
          create_green = λ c.
              at_code green_code (SetsStatus op green_status b) c (created green_code green_status c refl External);
          lock = λ c. at_code lock_code (SetsLock op 1 b) c locked;
          unlock = λ c. at_code unlock_code (SetsLock op 0 b) c unlocked;
        }

-- the area after an accepted call
accepted-area : (source : Source) (area bytes answer : List ℕ) → (operate_on source area bytes answer).0 ≡ 0
    → (operate_on source area bytes answer).1
    ≡ layout (applied (config_of source) (read_operation bytes).1 (view source.room area))
unfolding operate_on
accepted-area source area bytes answer h =
    go (or_else source.loaded.answer (verdict source.room config (read_operation bytes) area answer))
    (sym (call_answer source area bytes answer) ∙ h)
  where
    config : Config
    config = config_of source

    op : Operation
    op = (read_operation bytes).1

    go : (n : ℕ) → n ≡ 0
        → (outcome source.room n config op area answer).1 ≡ layout (applied config op (view source.room area))
    go zero e = refl
    go (suc n) e = absurd (omega arith)

-- the theorem: every accepted call of a source
pub call_effects_on : (source : Source) → Fits source → CallEffectsOn source
call_effects_on source fits area bytes answer h =
    let y = (answer-zero source area bytes answer).0 h in
    let config = config_of source in
    let b = view source.room area in
    let op = (read_operation bytes).1 in
    let sh = view_shape source.room area in
    subst (Effects config op b)
    (sym (ap (view source.room) (accepted-area source area bytes answer h)
    ∙ view-layout source.room (applied config op b)
    (apply_shape source.room config op (family_of op.code) (actor_of op.code) b sh)))
    (operation_effects config (fits.sound y.p1-6) (fits.roomy y.p1-6) op b sh y.p11-23)

-- of every file
pub call_effects : CallEffects
call_effects file = call_effects_on (file_source file) (file-fits file)

-- ... and of the plain book
pub book_effects_on : (source : Source) → Fits source → BookEffectsOn source
book_effects_on source fits area h calls bytes answer z =
    let accepted = (fresh_zero source area h).0 in
    let r = reached_state source fits area h calls in
    let op = (read_operation bytes).1 in
    let q =
    call_zero source fits accepted _ r.0 (area_after source (fresh_on source area).1 calls) bytes answer r.2 z in
    operation_effects (config_of source) (fits.sound accepted) (fits.roomy accepted) op
    (final source (fresh_on source area).1 calls) r.0.shape
    (passed (config_of source) (final source (fresh_on source area).1 calls) op (family_of op.code)
    (actor_of op.code) q.1)

pub book_effects : BookEffects
book_effects file = book_effects_on (file_source file) (file-fits file)
