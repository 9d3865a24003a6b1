-- No device writes a descriptor in a green zone.
use Prim.Native.Nat.{ℕ, ◌<◌}
use mathlib.Core.Path.{◌≡◌, refl, sym, ap, ◌∙◌, subst}
use mathlib.Core.Logic.{◌⊎◌, inl, inr}
use mathlib.Core.List.{List, [], ◌∷◌}
use mathlib.Core.Bool.{Bool, true, false}
use lib.Dec.{eqb}
use native.Mathlib.Omega.{arith}
use borrow.Author.Tests.{eqb-true}
use Rattle.model.specs.Config.{kind_of, owns, from1to}
use Rattle.model.specs.State.{State, device_in, object_in, held, cleared, green}
use Rattle.model.specs.Closure.{described}
use Rattle.model.specs.Operation.{object_at, second_at, family_of, actor_of, read_operation}
use Rattle.model.specs.Questions.{q18, read_entry, write_entry, transfer}
use Rattle.sources.specs.Gate.{Source, config_of, file_source, fresh_on}
use Rattle.model.specs.Trace as Trace
use Rattle.model.specs.Trace.{CanRead, Transfer, Described, fitting, Traces, after}
use Rattle.sources.specs.Separation.{area_after, final}
use Rattle.sources.specs.Today.{WriteNow}
use Rattle.sources.specs.GreenDevices.{Spares, EachSpares, Outside, StoresOutside, GreenDevicesOn, GreenDevices}
use Rattle.model.specs.declared.Family.TheVariants.{Write, Copy}
use Rattle.model.specs.declared.Actor.TheVariants.{Device}
use Rattle.model.specs.declared.Config.{Config}
use Rattle.model.specs.declared.Operation.{Operation}
use Rattle.model.proofs.Lists.{and_r, or_true, not-true, below_at}
use Rattle.model.proofs.Green.{quiet_entry_lem, green_quiet}
use Rattle.model.proofs.Facts.{Passed, passed}
use Rattle.sources.proofs.Stores.{Kept}
use Rattle.model.proofs.Stores.{not_zero}
use Rattle.sources.proofs.TraceLaws.{hardcoded-live, transfer-inside, transfer-kept}
use Rattle.model.proofs.Confinement.{readable-reads}
use Rattle.sources.proofs.Sources.{Fits, file-fits}
use Rattle.sources.proofs.Calls.{call_zero, fresh_zero}
use Rattle.sources.proofs.Reached.{reached_state}
use Rattle.sources.proofs.Reports.{readable-live}
use Rattle.sources.proofs.Today.{write_now}

module _ {room : ℕ} (config : Config) (b : State) (kept : Kept room config b) where
  -- a descriptor that a device can read is in its partition
  readable-place : {c o : ℕ} → CanRead config b c o → object_in b o ≡ device_in b c
  readable-place (Trace.own {c = c} {o = o} h k) =
      kept.together c o (and_r (eqb (kind_of config o) 4) (owns config 2 c o) k)
  readable-place (Trace.next {c = c} {o = o} e r m h l ep) =
      ap (object_in b) (sym ep)
      ∙ (kept.confines c o (held b o) (readable-reads config b (hardcoded-live config b kept) r) e m).1

  -- in a green zone it holds a value that writes no kind 1
  quiet_device : (t : Transfer) → Described config b t → t.writing ≡ true → kind_of config t.object ≡ 1
      → green b (device_in b t.device) ≡ true → ⊥
  quiet_device t d w k g =
      let o = t.descriptor in
      let e = readable-place d.readable in
      quiet_entry_lem config t.entry
      (green_quiet config b (object_in b o) (held b o)
      (kept.greens o (readable-live config b kept d.readable)
      (subst (λ (p : ℕ). green b p ≡ true) (sym e) g)) d.listed)
      (subst (λ (s : Bool). fitting s t.entry ≡ true) w d.fits) (ap (kind_of config) d.named ∙ k)

  spares : (t : Transfer) → Described config b t → Spares config b t
  spares t d w x =
      let q = transfer-inside config b kept t d in
      let k : kind_of config t.object ≡ 1 =
      one q.1 (or_true (and_r (from1to t.object config.counts.objects) _ x)) in
      let z : green b (device_in b t.device) ≡ false =
      not-true (green b (device_in b t.device)) (quiet_device t d w k) in
      (z, ap (green b) q.0 ∙ z)
    where
      one : (kind_of config t.object ≡ 4 → ⊥)
          → (eqb (kind_of config t.object) 1 ≡ true) ⊎ (eqb (kind_of config t.object) 4 ≡ true)
          → kind_of config t.object ≡ 1
      one no4 (inl e) = eqb-true (kind_of config t.object) 1 e
      one no4 (inr e) = absurd (no4 (eqb-true (kind_of config t.object) 4 e))

  -- what question 18 finds is a transfer that is described
  now_quiet : (c n v : ℕ) → WriteNow config b c n v → kind_of config n ≡ 1
      → (green b (device_in b c) ≡ false) × (green b (object_in b n) ≡ false)
  now_quiet c n v q k =
      let t : Transfer =
      record {
        device = c;
        object = n;
        writing = true;
        descriptor = q.descriptor;
        entry = q.entry;
        bytes = cleared;
      } in
      let d : Described config b t =
      record { readable = q.readable; listed = q.listed; named = q.named; fits = q.mode; sixteen = refl } in
      let z : green b (device_in b c) ≡ false = not-true (green b (device_in b c)) (quiet_device t d refl k) in
      (z, ap (green b) (transfer-inside config b kept t d).0 ∙ z)

  module _ (op : Operation) where
    write-outside : Passed config b op Write Device → (i : ℕ) → i < op.count → kind_of config (object_at op i) ≡ 1
        → Outside b op (object_at op i)
    unfolding q18
    write-outside p i l k =
        now_quiet op.subject (object_at op i) (second_at op i)
        ((write_now config b (hardcoded-live config b kept) op.subject (object_at op i) (second_at op i)).0
        (below_at op.count (transfer config b op Write) p.p18 i l)) k

    copy-outside : Passed config b op Copy Device → (i : ℕ) → i < op.count → (second_at op i ≡ 0 → ⊥)
        → kind_of config (second_at op i) ≡ 1 → Outside b op (second_at op i)
    unfolding q18
    copy-outside p i l z k =
        let v = held b (object_at op i) in
        now_quiet op.subject (second_at op i) v
        ((write_now config b (hardcoded-live config b kept) op.subject (second_at op i) v).0
        (not_zero (second_at op i) (second_at op i)
        (described config b op.subject (write_entry config (second_at op i) v)) refl (omega arith)
        (and_r (described config b op.subject (read_entry (object_at op i))) _
        (below_at op.count (transfer config b op Copy) p.p18 i l)))) k

    stores-outside : Passed config b op (family_of op.code) (actor_of op.code) → StoresOutside config b op
    stores-outside p =
        record {
          writes = λ c. write-outside (subst (λ (x : ℕ). Passed config b op (family_of x) (actor_of x)) c p);
          copies = λ c. copy-outside (subst (λ (x : ℕ). Passed config b op (family_of x) (actor_of x)) c p);
        }

-- a trace
each_spares : {room : ℕ} (config : Config) (trace : List Transfer) (b : State) → Kept room config b
    → Traces config b trace → EachSpares config b trace
each_spares config [] b kept rs = tt
each_spares config (t ∷ ts) b kept rs = (
  spares config b kept t rs.0,
  each_spares config ts (after config b t) (transfer-kept config b kept t rs.0) rs.1,
)

-- the theorem
pub green-devices_on : (source : Source) → Fits source → GreenDevicesOn source
green-devices_on source fits area h calls =
    let r = reached_state source fits area h calls in
    let config = config_of source in
    let b = final source (fresh_on source area).1 calls in
    record {
      traces = λ trace rs. each_spares config trace b r.0 rs;
      calls_too = λ bytes answer z.
          let op = (read_operation bytes).1 in
          stores-outside config b r.0 op
          (passed config b op (family_of op.code) (actor_of op.code)
          (call_zero source fits (fresh_zero source area h).0 b r.0
          (area_after source (fresh_on source area).1 calls) bytes answer r.2 z).1);
    }

-- of every file
pub green-devices : GreenDevices
green-devices file = green-devices_on (file_source file) (file-fits file)
