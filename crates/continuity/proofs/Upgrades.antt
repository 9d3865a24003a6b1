-- A site that took one gate after the other.
use Prim.Native.Nat.{ℕ, zero, suc, ◌+◌, ◌-◌, ◌≤◌}
use mathlib.Core.Path.{◌≡◌, refl, sym, ap, ◌∙◌, subst}
use mathlib.Core.List.{List, [], ◌∷◌, ◌++◌}
use mathlib.Core.Bool.{Bool, true, false, not, cond, ◌||◌, true≢false}
use native.Mathlib.Omega.{arith}
use lib.Dec.{leb, eqb}
use borrow.Author.Tests.{leb-true, le-leb, eqb-true, eq-eqb}
use Rattle.model.specs.Base.{all}
use Rattle.model.specs.ConfigFile.{ask, load_to}
use Rattle.model.specs.State.{State, layout}
use Rattle.model.specs.Older.{no_locks, older_layout}
use Rattle.sources.specs.Gate.{Source, config_of, file_source, fresh_on, operate_on}
use Rattle.model.specs.Separation.{Call, after_call}
use Rattle.sources.specs.Separation.{area_after, initial}
use Rattle.model.specs.declared.Config.{Config}
use Rattle.model.specs.Loaded.{Loaded}
use Rattle.model.proofs.Lists.{and_l, and_r, or_right, both_true}
use Rattle.model.proofs.Older.{older_layout_lem}
use Rattle.model.proofs.WiderFiles.{load-wider}
use Rattle.sources.proofs.Sources.{file-fits}
use Rattle.sources.proofs.Stores.{Kept}
use Rattle.model.proofs.Formed.{Formed}
use Rattle.sources.proofs.Calls.{fresh_kept, fresh_zero, call_area, call_kept}
use Rattle.sources.proofs.Reached.{fresh-formed, call_formed}
use Rattle.continuity.specs.Past.{
  Past,
  before_serials,
  quiet_line,
  load_in,
  reading_in,
  layout_in,
  fresh_in,
  operate_in,
  area_in,
  carried,
}
use Rattle.continuity.specs.Carried.{Promised}
use Rattle.continuity.specs.Upgrades.{gate, Stretch, Ascending, moved_on, through, Upgrades}
use Rattle.continuity.proofs.Judged.{Real, Fit}
use Rattle.continuity.proofs.PastAreas.{strict, load_past, carried-layout}
use Rattle.continuity.proofs.PastCalls.{area_in_lem, fit_in, unread_in, fresh_fit, fresh_past}
use Rattle.continuity.proofs.Promised.{area_append, promised}
use Rattle.continuity.proofs.Carried.{real_base, real_rings, real_green, real_locks, real_serials}

-- a gate has what an earlier one had
record Newer (old new : Past) : Type 0 where
  objects : old.limits.objects ≤ new.limits.objects
  edition : old.limits.edition ≤ new.limits.edition
  number : old.limits.number ≤ new.limits.number
  status : old.status ≤ new.status
  rings : old.rings ≡ true → new.rings ≡ true
  locks : old.locks ≡ true → new.locks ≡ true

-- a test of two that is not the first is the second
other : (t u : Bool) → (t ≡ false → u ≡ true) → t || u ≡ true
other true u h = refl
other false u h = h refl

not_this : (t u : Bool) → (t ≡ true → u ≡ true) → u ≡ false → t ≡ false
not_this true u h e = absurd (true≢false (sym (h refl) ∙ e))
not_this false u h e = refl

module _ (old new : Past) (real : Real old) (newer : Newer old new) where
  -- a file that the earlier gate accepted
  still_accepted : (file : List ℕ) → (load_in old file).answer ≡ 0 → (load_in new file).answer ≡ 0
  unfolding load_in ask
  still_accepted file h =
      let s = strict old.rings (quiet_line (load_to old.limits file).config) (load_to old.limits file) h in
      let e : load_to new.limits file ≡ load_to old.limits file =
      load-wider old.limits new.limits newer.objects newer.edition newer.number file s.0 in
      go (load_to new.limits file) (ap (λ (l : Loaded). l.answer) e ∙ s.0)
      (λ r. ap (λ (l : Loaded). quiet_line l.config) e
      ∙ s.2 (not_this old.rings new.rings newer.rings r))
    where
      go : (l : Loaded) → l.answer ≡ 0 → (new.rings ≡ false → quiet_line l.config ≡ true)
          → (ask 6 (not (eqb l.answer 0) || (new.rings || quiet_line l.config)) l).answer ≡ 0
      go l z q =
          ap (λ (t : Bool). (ask 6 t l).answer)
          (or_right (not (eqb l.answer 0)) (new.rings || quiet_line l.config)
          (other new.rings (quiet_line l.config) q))
          ∙ z

  -- a state that it had
  still_fit : (b : State) → Fit old b → Fit new b
  still_fit b fit =
      record {
        lockless = λ e. fit.lockless (not_this old.locks new.locks newer.locks e);
        plain = more b.status fit.plain;
      }
    where
      more : (l : List ℕ) → all (λ s. leb s old.status) l ≡ true → all (λ s. leb s new.status) l ≡ true
      more [] h = refl
      more (x ∷ l) h =
          both_true
          (le-leb x new.status
          (omega (arith, leb-true x old.status (and_l (leb x old.status) _ h), newer.status)))
          (more l (and_r (leb x old.status) _ h))

  moved-layout : (b : State) → Fit old b → moved_on old new (layout_in old b) ≡ layout_in new b
  moved-layout b fit = go old.locks new.locks refl refl
    where
      go : (t u : Bool) → old.locks ≡ t → new.locks ≡ u
          → cond t (cond t (layout b) (older_layout b))
          (cond u (cond t (layout b) (older_layout b) ++ no_locks) (cond t (layout b) (older_layout b)))
          ≡ cond u (layout b) (older_layout b)
      go true true e f = refl
      go true false e f = absurd (true≢false (sym (newer.locks e) ∙ f))
      go false true e f = sym (older_layout_lem b (fit.lockless e))
      go false false e f = refl

-- where a list of calls from a fresh state led to, as the gate of before has it and as today's has it
record There (past : Past) (file start area : List ℕ) : Type 0 where
  state : State
  kept : Kept (file_source file).room (config_of (file_source file)) state
  formed : Formed (file_source file).room (config_of (file_source file)) state
  fit : Fit past state
  is : area ≡ layout_in past state
  led : List Call
  same : area_after (file_source file) start led ≡ layout state

-- calls lead on
module _ (past : Past) (real : Real past) (file : List ℕ) (h : (load_in past file).answer ≡ 0) (start : List ℕ) where
  abbrev src : Source
  src = file_source file

  abbrev cfg : Config
  cfg = config_of src

  one_on : (c : Call) (area : List ℕ) → There past file start area
      → There past file start (operate_in past file area c.bytes c.answer).1
  one_on c area t =
      subst (λ (x : List ℕ). There past file start (operate_in past file x c.bytes c.answer).1) (sym t.is)
      (go (eqb (reading_in past c.bytes).0 0) refl)
    where
      go : (r : Bool) → eqb (reading_in past c.bytes).0 0 ≡ r
          → There past file start (operate_in past file (layout_in past t.state) c.bytes c.answer).1
      go true e =
          let b = t.state in
          let accepted = (load_past past real file h).0 in
          let r = eqb-true (reading_in past c.bytes).0 0 e in
          let o = operate_on src (layout b) c.bytes c.answer in
          record {
            state = after_call cfg b c.bytes o.0;
            kept = (call_kept src (file-fits file) accepted b t.kept (layout b) c.bytes c.answer refl).0;
            formed = call_formed src (file-fits file) accepted b t.kept t.formed (layout b) c.bytes c.answer
                refl;
            fit = fit_in past real file h b t.kept t.formed t.fit c.bytes c.answer r;
            is = area_in_lem past real file h b t.kept t.formed t.fit c.bytes c.answer r;
            led = t.led ++ (c ∷ []);
            same = area_append src t.led (c ∷ []) start
                ∙ (ap (λ (x : List ℕ). (operate_on src x c.bytes c.answer).1) t.same
                ∙ call_area src (file-fits file) accepted b t.kept (layout b) c.bytes c.answer refl);
          }
      go false e =
          record {
            state = t.state;
            kept = t.kept;
            formed = t.formed;
            fit = t.fit;
            is = unread_in past file (layout_in past t.state) c.bytes c.answer
                (λ r. true≢false (sym (eq-eqb (reading_in past c.bytes).0 0 r) ∙ e));
            led = t.led;
            same = t.same;
          }

  all_on : (calls : List Call) (area : List ℕ) → There past file start area
      → There past file start (area_in past file area calls)
  all_on [] area t = t
  all_on (c ∷ cs) area t =
      all_on cs (operate_in past file area c.bytes c.answer).1 (one_on c area t)

-- the gates in their order
real_gate : (n : ℕ) → Real (gate n)
real_gate zero = real_base
real_gate (suc zero) = real_rings
real_gate (suc (suc zero)) = real_green
real_gate (suc (suc (suc zero))) = real_locks
real_gate (suc (suc (suc (suc n)))) = real_serials

newer_refl : (past : Past) → Newer past past
newer_refl past =
    record {
      objects = omega arith;
      edition = omega arith;
      number = omega arith;
      status = omega arith;
      rings = λ e. e;
      locks = λ e. e;
    }

newer_trans : (a b c : Past) → Newer a b → Newer b c → Newer a c
newer_trans a b c x y =
    record {
      objects = omega (arith, x.objects, y.objects);
      edition = omega (arith, x.edition, y.edition);
      number = omega (arith, x.number, y.number);
      status = omega (arith, x.status, y.status);
      rings = λ e. y.rings (x.rings e);
      locks = λ e. y.locks (x.locks e);
    }

newer_next : (n : ℕ) → Newer (gate n) (gate (suc n))
newer_next zero =
    record {
      objects = omega arith;
      edition = omega arith;
      number = omega arith;
      status = omega arith;
      rings = λ e. e;
      locks = λ e. e;
    }
newer_next (suc zero) =
    record {
      objects = omega arith;
      edition = omega arith;
      number = omega arith;
      status = omega arith;
      rings = λ e. refl;
      locks = λ e. e;
    }
newer_next (suc (suc zero)) =
    record {
      objects = omega arith;
      edition = omega arith;
      number = omega arith;
      status = omega arith;
      rings = λ e. refl;
      locks = λ e. e;
    }
newer_next (suc (suc (suc zero))) =
    record {
      objects = omega arith;
      edition = omega arith;
      number = omega arith;
      status = omega arith;
      rings = λ e. refl;
      locks = λ e. refl;
    }
newer_next (suc (suc (suc (suc n)))) = newer_refl before_serials

newer_by : (n k : ℕ) → Newer (gate n) (gate (k + n))
newer_by n zero = let e : n ≡ 0 + n = omega arith in subst (λ (m : ℕ). Newer (gate n) (gate m)) e (newer_refl (gate n))
newer_by n (suc k) =
    let e : suc (k + n) ≡ suc k + n = omega arith in
    subst (λ (m : ℕ). Newer (gate n) (gate m)) e
    (newer_trans (gate n) (gate (k + n)) (gate (suc (k + n))) (newer_by n k) (newer_next (k + n)))

newer_gate : (n m : ℕ) → n ≤ m → Newer (gate n) (gate m)
newer_gate n m l =
    let e : (m - n) + n ≡ m = omega (arith, l) in
    subst (λ (x : ℕ). Newer (gate n) (gate x)) e (newer_by n (m - n))

-- the area after one gate after the other
module _ (file start : List ℕ) where
  moved_on_lem : (n m : ℕ) → n ≤ m → (area : List ℕ) → There (gate n) file start area
      → There (gate m) file start (moved_on (gate n) (gate m) area)
  moved_on_lem n m l area t =
      let newer = newer_gate n m l in
      record {
        state = t.state;
        kept = t.kept;
        formed = t.formed;
        fit = still_fit (gate n) (gate m) (real_gate n) newer t.state t.fit;
        is = ap (moved_on (gate n) (gate m)) t.is
            ∙ moved-layout (gate n) (gate m) (real_gate n) newer t.state t.fit;
        led = t.led;
        same = t.same;
      }

  -- today's calls lead there
  reach : (ts : List Stretch) (n : ℕ) → Ascending n ts → (load_in (gate n) file).answer ≡ 0 → (area : List ℕ)
      → There (gate n) file start area
      → (led : List Call) × (area_after (file_source file) start led ≡ through file n area ts)
  reach [] n up h area t = (
    t.led,
    t.same
        ∙ (sym (carried-layout (gate n) (config_of (file_source file)) t.state t.kept t.formed t.fit)
        ∙ ap (carried (gate n)) (sym t.is)),
  )
  reach (s ∷ ts) n up h area t =
      let m = s.version in
      let newer = newer_gate n m up.0 in
      let h' = still_accepted (gate n) (gate m) (real_gate n) newer file h in
      reach ts m up.1 h' (area_in (gate m) file (moved_on (gate n) (gate m) area) s.calls)
      (all_on (gate m) (real_gate m) file h' start s.calls (moved_on (gate n) (gate m) area)
      (moved_on_lem n m up.0 area t))

-- the theorem
pub upgrades : Upgrades
upgrades file area n z ts up more =
    let past = gate n in
    let source = file_source file in
    let q = fresh_past past (real_gate n) file area z in
    let f = fresh_zero source (carried past area) q.1 in
    let start = (fresh_on (file_source file) (carried past area)).1 in
    let r = reach file start ts n up q.0 (fresh_in past file area).1
    (record {
      state = initial source;
      kept = fresh_kept source.room (config_of source) ((file-fits file).roomy f.0);
      formed = fresh-formed source.room (config_of source);
      fit = fresh_fit past (real_gate n) file area source.room (config_of source);
      is = q.2;
      led = [];
      same = f.1;
    }) in
    subst (λ (s : List ℕ). Promised source s more) r.1
    (promised source (file-fits file) (carried past area) q.1 r.0 more)
