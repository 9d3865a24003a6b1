-- Document 02, N6: a device that is locked stays in no partition, over whole lists of calls.
use Prim.Native.Nat.{ℕ, zero, suc, ◌≤◌}
use mathlib.Core.Path.{◌≡◌, refl, sym, ap, ◌∙◌, subst}
use mathlib.Core.Logic.{◌⊎◌, inl, inr}
use mathlib.Core.List.{List, [], ◌∷◌}
use mathlib.Core.Bool.{Bool, true, false, ◌&&◌, ◌||◌, cond, true≢false, false≢true}
use native.Mathlib.Omega.{arith}
use native.Mathlib.Decide.{dec_le}
use lib.Dec.{leb, eqb}
use borrow.Author.Tests.{eqb-true, eq-eqb}
use Rattle.model.specs.Base.{nth, put}
use Rattle.model.specs.Config.{most_devices}
use Rattle.model.specs.ConfigFile.{load}
use Rattle.model.specs.State.{State, device_in, lock_of, unlocked, records, layout, view}
use Rattle.model.specs.Operation.{family_of, actor_of, lock_code, unlock_code, read_operation}
use Rattle.model.specs.Effect.{apply}
use Rattle.model.specs.Gate.{make_fresh, operate}
use Rattle.model.specs.Separation.{Call, answers_of, area_after, after_call, operations_of, final}
use Rattle.model.specs.Locks.{unlocks, KeptOut, LocksOut, LockedSince}
use Rattle.model.specs.declared.Family.{Family}
use Rattle.model.specs.declared.Family.TheVariants.{
  Write,
  Copy,
  Create,
  Destroy,
  Activate,
  Deactivate,
  Lock,
  Unlock,
}
use Rattle.model.specs.declared.Actor.{Actor}
use Rattle.model.specs.declared.Actor.TheVariants.{Driver, Device, External}
use Rattle.model.specs.declared.Config.{Config}
use Rattle.model.specs.declared.Operation.{Operation}
use Rattle.model.proofs.Lists.{
  and_r,
  both_true,
  or_true,
  not_eqb,
  from1to-low,
  from1to-high,
  nth_past,
  nth-put-same,
  nth-put_cases,
}
use Rattle.model.proofs.ClosureLaws.{reads-active}
use Rattle.model.proofs.Accepted.{Sound, load-sound}
use Rattle.model.proofs.Facts.{Passed, passed}
use Rattle.model.proofs.StateLaws.{view-layout}
use Rattle.model.proofs.Stores.{Kept}
use Rattle.model.proofs.Moves.{actor_exists_lem}
use Rattle.model.proofs.Formed.{FormedBy}
use Rattle.model.proofs.Calls.{
  fresh_zero,
  or_else_zero,
  verdict_zero,
  call_answer,
  call_area,
  call_kept,
}
use Rattle.model.proofs.Reached.{answered-formed, reached_state}

-- the code of a family
abbrev is_unlock : Family → Bool
is_unlock Write = false
is_unlock Copy = false
is_unlock Create = false
is_unlock Destroy = false
is_unlock Activate = false
is_unlock Deactivate = false
is_unlock Lock = false
is_unlock Unlock = true

unlock_code_lem : (code : ℕ) → is_unlock (family_of code) ≡ true → eqb code unlock_code ≡ true
unlock_code_lem code h =
    go (leb code 2) (leb code 4) (eqb code 5 || eqb code 13) (eqb code 6) (leb code 9) (eqb code lock_code)
    (eqb code unlock_code) h
  where
    go : (t u v w x y z : Bool) → is_unlock (cond t Write (cond u Copy (cond v Create (cond w Destroy (cond x Activate
        (cond y Lock (cond z Unlock Deactivate))))))) ≡ true → z ≡ true
    go true u v w x y z h = absurd (false≢true h)
    go false true v w x y z h = absurd (false≢true h)
    go false false true w x y z h = absurd (false≢true h)
    go false false false true x y z h = absurd (false≢true h)
    go false false false false true y z h = absurd (false≢true h)
    go false false false false false true z h = absurd (false≢true h)
    go false false false false false false true h = refl
    go false false false false false false false h = absurd (false≢true h)

-- a device with a lock is one of the sixteen, and in a well formed state it is in no partition
module _ (config : Config) (b : State) (kept : Kept config b) (formed : FormedBy config b) (c : ℕ) where
  lock_range : lock_of b c ≡ 1 → (1 ≤ c) × (c ≤ most_devices)
  lock_range h = go c h
    where
      far : (n : ℕ) → lock_of b (suc n) ≡ 1 → Dec (suc n ≤ most_devices) → suc n ≤ most_devices
      far n h (yes l) = l
      far n h (no g) =
          let z : lock_of b (suc n) ≡ 0 = nth_past b.lock (suc n) 0 (omega (arith, kept.shape.locks)) in
          absurd (omega arith)

      go : (n : ℕ) → lock_of b n ≡ 1 → (1 ≤ n) × (n ≤ most_devices)
      go zero h = absurd (omega arith)
      go (suc n) h = (omega arith, far n h (dec_le (suc n) most_devices))

  pub locked_outside : lock_of b c ≡ 1 → device_in b c ≡ 0
  locked_outside h =
      let q = lock_range h in
      go (or_true (formed.locks c q.0 q.1))
    where
      go : (unlocked b c ≡ true)
          ⊎ (eqb (lock_of b c) 1 && leb c config.counts.devices && eqb (device_in b c) 0 ≡ true) → device_in b c ≡ 0
      go (inl u) = let z = eqb-true (lock_of b c) 0 u in absurd (omega arith)
      go (inr q) = eqb-true (device_in b c) 0 (and_r (eqb (lock_of b c) 1 && leb c config.counts.devices) _ q)

-- one accepted operation
module _ (config : Config) (op : Operation) (b : State) (c : ℕ) (locked : lock_of b c ≡ 1) where
  out_after_lem : (f : Family) (a : Actor) → Kept config (apply config op f a b) → FormedBy config
      (apply config op f a b)
      → device_in b c ≡ 0 → device_in (apply config op f a b) c ≡ 0
  unfolding apply
  out_after_lem Write a kept formed out = out
  out_after_lem Copy a kept formed out = out
  out_after_lem Create a kept formed out = out
  out_after_lem Destroy a kept formed out = out
  out_after_lem Activate a kept formed out = locked_outside config (apply config op Activate a b) kept formed c locked
  out_after_lem Deactivate a kept formed out = locked_outside config (apply config op Deactivate a b) kept formed c
      locked
  out_after_lem Lock a kept formed out = out
  out_after_lem Unlock a kept formed out = out

  put_locked : (v : ℕ) → v ≡ 1 → ((c ≡ op.subject) × (nth (put b.lock op.subject v) c 0 ≡ v))
      ⊎ (nth (put b.lock op.subject v) c 0 ≡ lock_of b c) → nth (put b.lock op.subject v) c 0 ≡ 1
  put_locked v e (inl (k, q)) = q ∙ e
  put_locked v e (inr q) = q ∙ locked

  lock-after : (f : Family) (a : Actor) → (is_unlock f ≡ true → eqb op.subject c ≡ true → ⊥)
      → lock_of (apply config op f a b) c ≡ 1
  unfolding apply
  lock-after Write a h = locked
  lock-after Copy a h = locked
  lock-after Create a h = locked
  lock-after Destroy a h = locked
  lock-after Activate a h = locked
  lock-after Deactivate a h = locked
  lock-after Lock Driver h = locked
  lock-after Lock Device h = put_locked 1 refl (nth-put_cases b.lock op.subject c 1 0)
  lock-after Lock External h = locked
  lock-after Unlock Driver h = locked
  lock-after Unlock Device h = go (nth-put_cases b.lock op.subject c 0 0)
    where
      go : ((c ≡ op.subject) × (nth (put b.lock op.subject 0) c 0 ≡ 0))
          ⊎ (nth (put b.lock op.subject 0) c 0 ≡ lock_of b c) → nth (put b.lock op.subject 0) c 0 ≡ 1
      go (inl (e, q)) = absurd (h refl (eq-eqb op.subject c (sym e)))
      go (inr q) = q ∙ locked
  lock-after Unlock External h = locked

-- a list of calls from a state in which device c is locked
module _ (file : List ℕ) (accepted : (load file).answer ≡ 0) (c : ℕ) where
  abbrev config : Config
  config = (load file).config

  call_out : (b : State) (bytes : List ℕ) (n : ℕ) → lock_of b c ≡ 1 → device_in b c ≡ 0
      → Kept config (after_call config b bytes n) → FormedBy config (after_call config b bytes n)
      → device_in (after_call config b bytes n) c ≡ 0
  call_out b bytes zero locked out kept formed =
      let op = (read_operation bytes).1 in
      out_after_lem config op b c locked (family_of op.code) (actor_of op.code) kept formed out
  call_out b bytes (suc n) locked out kept formed = out

  call_locked : (b : State) (bytes : List ℕ) (n : ℕ) → lock_of b c ≡ 1 → unlocks bytes n c ≡ false
      → lock_of (after_call config b bytes n) c ≡ 1
  call_locked b bytes zero locked n15 =
      let op = (read_operation bytes).1 in
      lock-after config op b c locked (family_of op.code) (actor_of op.code)
      (λ u s. true≢false (sym (both_true (unlock_code_lem op.code u) s) ∙ n15))
  call_locked b bytes (suc n) locked n15 = locked

  formed_call : (b : State) → Kept config b → FormedBy config b → (area bytes answer : List ℕ) → area ≡ layout b
      → FormedBy config (after_call config b bytes (operate file area bytes answer).0)
  formed_call b kept formed area bytes answer f =
      answered-formed file accepted b kept formed bytes (operate file area bytes answer).0
      (λ z. verdict_zero config (load-sound file accepted) b kept bytes area answer
      (ap (view (records config)) f ∙ view-layout (records config) b kept.shape)
      (or_else_zero (load file).answer _ (sym (call_answer file accepted area bytes answer) ∙ z)).1)

  pub kept_out : (more : List Call) (b : State) → Kept config b → FormedBy config b → (area : List ℕ) → area ≡ layout b
      → lock_of b c ≡ 1 → KeptOut config b c (operations_of more) (answers_of file area more)
  kept_out [] b kept formed area f locked = tt
  kept_out (m ∷ ms) b kept formed area f locked =
      let n = (operate file area m.bytes m.answer).0 in
      let k = (call_kept file accepted b kept area m.bytes m.answer f).0 in
      let g = formed_call b kept formed area m.bytes m.answer f in (
        call_out b m.bytes n locked (locked_outside config b kept formed c locked) k g,
        λ n15. kept_out ms (after_call config b m.bytes n) k g (operate file area m.bytes m.answer).1
            (call_area file accepted b kept area m.bytes m.answer f) (call_locked b m.bytes n locked n15),
      )

-- the theorem
pub locked_out : LocksOut
locked_out file area h calls c locked =
    let q = fresh_zero file area h in
    let (kept, formed, same) = reached_state file area h calls in
    let config = (load file).config in
    let b = final file config (make_fresh file area).1 calls in
    let out : device_in b c ≡ 0 = locked_outside config b kept formed c locked in
    record {
      outside = out;
      no_entry = λ o v r. not_eqb (device_in b c) 0 (reads-active r) out;
      later = λ more. kept_out file q.0 c more b kept formed
          (area_after file (make_fresh file area).1 calls) same locked;
    }

-- an accepted lock is set
lock_set : (config : Config) (op : Operation) (b : State) → Sound config → Kept config b
    → Passed config b op (family_of op.code) (actor_of op.code) → op.code ≡ lock_code
    → lock_of (apply config op (family_of op.code) (actor_of op.code) b) op.subject ≡ 1
unfolding apply
lock_set config op b sound kept p e = go (family_of op.code) (actor_of op.code) (ap family_of e) (ap actor_of e) p
  where
    set : Passed config b op Lock Device → lock_of (apply config op Lock Device b) op.subject ≡ 1
    set p =
        let x = actor_exists_lem config op Lock Device p.p11 in
        nth-put-same b.lock op.subject 1 0 (from1to-low op.subject config.counts.devices x)
        (omega (arith, from1to-high op.subject config.counts.devices x, sound.few.devices, kept.shape.locks))

    go : (f : Family) (a : Actor) → f ≡ Lock → a ≡ Device → Passed config b op f a
        → lock_of (apply config op f a b) op.subject ≡ 1
    go f a ef ea p =
        subst (λ (g : Family). lock_of (apply config op g a b) op.subject ≡ 1) (sym ef)
        (subst (λ (d : Actor). lock_of (apply config op Lock d b) op.subject ≡ 1) (sym ea)
        (set (subst (λ (d : Actor). Passed config b op Lock d) ea
        (subst (λ (g : Family). Passed config b op g a) ef p))))

pub locked_since : LockedSince
locked_since file area h calls bytes answer z e more =
    let q = fresh_zero file area h in
    let (kept, formed, same) = reached_state file area h calls in
    let config = (load file).config in
    let so = load-sound file q.0 in
    let s = area_after file (make_fresh file area).1 calls in
    let b = final file config (make_fresh file area).1 calls in
    let op = (read_operation bytes).1 in
    let v = verdict_zero config so b kept bytes s answer
    (ap (view (records config)) same ∙ view-layout (records config) b kept.shape)
    (or_else_zero (load file).answer _ (sym (call_answer file q.0 s bytes answer) ∙ z)).1 in
    let p = passed config b op (family_of op.code) (actor_of op.code) v.1 in
    kept_out file q.0 op.subject more (after_call config b bytes 0)
    (subst (λ (n : ℕ). Kept config (after_call config b bytes n)) z
    (call_kept file q.0 b kept s bytes answer same).0)
    (subst (λ (n : ℕ). FormedBy config (after_call config b bytes n)) z
    (formed_call file q.0 op.subject b kept formed s bytes answer same))
    (operate file s bytes answer).1
    (call_area file q.0 b kept s bytes answer same ∙ ap (λ (n : ℕ). layout (after_call config b bytes n)) z)
    (lock_set config op b so kept p e)
