-- Question 18 over a whole call: where the state is well formed, its search finds what the device can read today.
use Prim.Native.Nat.{ℕ, zero, suc, ◌≤◌, ◌<◌}
use mathlib.Core.Path.{◌≡◌, refl, sym, ap, ◌∙◌, subst}
use mathlib.Core.Logic.{◌↔◌, ◌⊎◌, inl, inr}
use mathlib.Core.Bool.{Bool, true, false, not, cond, ◌&&◌, ◌||◌, true≢false}
use native.Mathlib.Decide.{dec_le}
use native.Mathlib.Omega.{arith}
use lib.Dec.{leb, eqb}
use borrow.Author.Tests.{eqb-true, eqb-false, eq-eqb, ne_eqb, lt-leb}
use Rattle.model.specs.Base.{below}
use Rattle.model.specs.Config.{kind_of, owns, from1to, hardcoded_to, reads, writes}
use Rattle.model.specs.State.{State, held, view, well_formed}
use Rattle.model.specs.Closure.{active, live, described}
use Rattle.model.specs.Operation.{
  object_at,
  second_at,
  family_of,
  actor_of,
  read_operation,
  green_code,
  lock_code,
  unlock_code,
}
use Rattle.model.specs.Questions.{q18, is_kind, read_entry, write_entry, transfer}
use Rattle.sources.specs.Gate.{Source, config_of, file_source}
use Rattle.sources.specs.FirstNo.{EachYes, before, call_questions}
use Rattle.sources.specs.Today.{ReadNow, WriteNow, Undescribed, Refusal18On, Refusal18}
use Rattle.model.specs.declared.Family.{Family}
use Rattle.model.specs.declared.Family.TheVariants.{Write, Copy, Create, Destroy, Activate, Deactivate, Lock, Unlock}
use Rattle.model.specs.declared.Actor.{Actor}
use Rattle.model.specs.declared.Actor.TheVariants.{Driver, Device, External}
use Rattle.model.specs.declared.Config.{Config}
use Rattle.model.specs.declared.Operation.{Operation}
use Rattle.model.proofs.Lists.{
  and_l,
  and_r,
  both_true,
  or_right,
  bool_cases,
  not-true,
  no_both,
  below_at,
  below_fails,
  cond_holds,
}
use Rattle.model.proofs.Columns.{or_else_lem}
use Rattle.model.proofs.Facts.{with_device_lem}
use Rattle.model.proofs.ClosureExact.{described_now}
use Rattle.sources.proofs.Sources.{Fits, file-fits}
use Rattle.sources.proofs.FirstNo.{call_first_no}

-- in a well formed state an active device's hardcoded descriptor is active: the hypothesis of `described_now`
pub formed-live : (room : ℕ) (config : Config) → config.counts.objects ≤ room → (b : State)
    → well_formed room config b ≡ true → (c x : ℕ) → active b c ≡ true → hardcoded_to config c x ≡ true
    → live config b x ≡ true
formed-live room config fits b h c x a w =
    let o : owns config 2 c x ≡ true = and_r (eqb (kind_of config x) 4) (owns config 2 c x) w in
    let k : eqb (kind_of config x) 4 ≡ true = and_l (eqb (kind_of config x) 4) (owns config 2 c x) w in
    let i : from1to x config.counts.objects ≡ true = search (and_l, and_r) in
    both_true (both_true i (or_right (eqb (kind_of config x) 1) (eqb (kind_of config x) 4) k))
    (subst (λ (y : ℕ). not (eqb y 0) ≡ true) (sym (with_device_lem room config fits b h c x o)) a)

module _ (config : Config) (b : State)
    (hardcoded-live : (c x : ℕ) → active b c ≡ true → hardcoded_to config c x ≡ true → live config b x ≡ true) where
  -- question 18's two searches
  pub read_now : (c n : ℕ) → (described config b c (read_entry n) ≡ true) ↔ ReadNow config b c n
  read_now c n = (
    (λ h. let (o, e, r, m, k) = (described_now config b hardcoded-live c (read_entry n)).0 h in
        record {
          descriptor = o;
          entry = e;
          readable = r;
          listed = m;
          named = eqb-true e.object n (and_l (eqb e.object n) (reads e) k);
          mode = and_r (eqb e.object n) (reads e) k;
        }),
    λ q. (described_now config b hardcoded-live c (read_entry n)).1 (
      q.descriptor,
      q.entry,
      q.readable,
      q.listed,
      both_true (eq-eqb q.entry.object n q.named) q.mode,
    ),
  )

  pub write_now : (c n v : ℕ) → (described config b c (write_entry config n v) ≡ true) ↔ WriteNow config b c n v
  write_now c n v = (
    (λ h. let (o, e, r, m, k) = (described_now config b hardcoded-live c (write_entry config n v)).0 h in
        let k₂ = and_l (eqb e.object n && writes e) _ k in
        record {
          descriptor = o;
          entry = e;
          readable = r;
          listed = m;
          named = eqb-true e.object n (and_l (eqb e.object n) (writes e) k₂);
          mode = and_r (eqb e.object n) (writes e) k₂;
          stored = λ one. eqb-true e.value v (or_else_lem (is_kind config 1 n) (eqb e.value v)
              (and_r (eqb e.object n && writes e) _ k) (eq-eqb (kind_of config n) 1 one));
        }),
    λ q. (described_now config b hardcoded-live c (write_entry config n v)).1 (
      q.descriptor,
      q.entry,
      q.readable,
      q.listed,
      both_true (both_true (eq-eqb q.entry.object n q.named) q.mode)
          (value q.entry.value (is_kind config 1 n) refl q.stored),
    ),
  )
    where
      value : (w : ℕ) (t : Bool) → is_kind config 1 n ≡ t → (kind_of config n ≡ 1 → w ≡ v) → not t || eqb w v ≡ true
      value w true e h = eq-eqb w v (h (eqb-true (kind_of config n) 1 e))
      value w false e h = refl

  module _ (op : Operation) (i : ℕ) where
    -- an item of a write, and a pair of a read
    write_no : (transfer config b op Write i ≡ false)
        ↔ (WriteNow config b op.subject (object_at op i) (second_at op i) → ⊥)
    write_no =
        let r = write_now op.subject (object_at op i) (second_at op i) in
        ((λ h q. no_both (transfer config b op Write i) (r.1 q) h), λ k. not-true _ (λ h. k (r.0 h)))

    abbrev Misses : Type 0
    Misses =
        (ReadNow config b op.subject (object_at op i) → ⊥)
        ⊎ ((second_at op i ≡ 0 → ⊥) × (WriteNow config b op.subject (second_at op i) (held b (object_at op i)) → ⊥))

    copy_no : (transfer config b op Copy i ≡ false) ↔ Misses
    copy_no = (
      (λ h. there source destination (eqb (second_at op i) 0) refl refl refl h),
      back,
    )
      where
        source : Bool
        source = described config b op.subject (read_entry (object_at op i))

        destination : Bool
        destination = described config b op.subject (write_entry config (second_at op i) (held b (object_at op i)))

        there : (s t z : Bool) → source ≡ s → destination ≡ t → eqb (second_at op i) 0 ≡ z → s && (z || t) ≡ false
            → Misses
        there false t z es et ez h =
            inl (λ q. no_both source ((read_now op.subject (object_at op i)).1 q) es)
        there true t true es et ez h = absurd (true≢false h)
        there true true false es et ez h = absurd (true≢false h)
        there true false false es et ez h =
            inr (
              eqb-false (second_at op i) 0 ez,
              λ q. no_both destination ((write_now op.subject (second_at op i) (held b (object_at op i))).1 q) et,
            )

        back : Misses → transfer config b op Copy i ≡ false
        back (inl k) =
            ap (λ (s : Bool). s && (eqb (second_at op i) 0 || destination))
            (not-true source (λ h. k ((read_now op.subject (object_at op i)).0 h)))
        back (inr (z, k)) =
            last source
            (ap (λ (x : Bool). x || destination) (ne_eqb (second_at op i) 0 z)
            ∙ not-true destination
            (λ h. k ((write_now op.subject (second_at op i) (held b (object_at op i))).0 h)))
          where
            last : (s : Bool) {t : Bool} → t ≡ false → s && t ≡ false
            last true h = h
            last false h = refl

  -- the codes to which 18 is put
  module _ (op : Operation) where
    all_pass : (n : ℕ) → below n (λ i. true) ≡ true
    all_pass zero = refl
    all_pass (suc n) = both_true (all_pass n) refl

    abbrev Quiet : Family → Type 0
    Quiet f = (a : Actor) → q18 config b op f a ≡ true

    quiet : (f : Family) → ((i : ℕ) → transfer config b op f i ≡ true) → Quiet f
    unfolding q18
    quiet f h Driver = refl
    quiet f h Device = every_one op.count
      where
        every_one : (n : ℕ) → below n (transfer config b op f) ≡ true
        every_one zero = refl
        every_one (suc n) = both_true (every_one n) (h n)
    quiet f h External = refl

    skip : (t : Bool) (f g : Family) → t ≡ false → Quiet g → Quiet (cond t f g)
    skip true f g e h = absurd (true≢false e)
    skip false f g e h = h

    -- the families of codes above 4, and the codes up to 4
    late : (k : ℕ) → leb k 4 ≡ false → leb k 2 ≡ false → Quiet (family_of k)
    late k e₄ e₂ =
        skip (leb k 2) Write _ e₂
        (skip (leb k 4) Copy _ e₄
        (cond_holds Quiet (eqb k 5 || eqb k green_code) Create _ (quiet Create (λ i. refl))
        (cond_holds Quiet (eqb k 6) Destroy _ (quiet Destroy (λ i. refl))
        (cond_holds Quiet (leb k 9) Activate _ (quiet Activate (λ i. refl))
        (cond_holds Quiet (eqb k lock_code) Lock _ (quiet Lock (λ i. refl))
        (cond_holds Quiet (eqb k unlock_code) Unlock Deactivate (quiet Unlock (λ i. refl))
        (quiet Deactivate (λ i. refl))))))))

    early : (k : ℕ) → k ≤ 4 → (k ≡ 2 → ⊥) → (k ≡ 4 → ⊥) → q18 config b op (family_of k) (actor_of k) ≡ true
    unfolding q18
    early zero l d₂ d₄ = refl
    early (suc zero) l d₂ d₄ = refl
    early (suc (suc zero)) l d₂ d₄ = absurd (d₂ refl)
    early (suc (suc (suc zero))) l d₂ d₄ = refl
    early (suc (suc (suc (suc zero)))) l d₂ d₄ = absurd (d₄ refl)
    early (suc (suc (suc (suc (suc k))))) l d₂ d₄ = absurd (omega arith)

    other : (k : ℕ) → (k ≡ 2 → ⊥) → (k ≡ 4 → ⊥) → q18 config b op (family_of k) (actor_of k) ≡ true
    other k d₂ d₄ = go (dec_le k 4)
      where
        go : Dec (k ≤ 4) → q18 config b op (family_of k) (actor_of k) ≡ true
        go (yes l) = early k l d₂ d₄
        go (no l) = late k (lt-leb k 4 (omega arith)) (lt-leb k 2 (omega arith)) (actor_of k)

    -- 18 is a no exactly if some transfer is not described now
    abbrev Some : Type 0
    Some = (i : ℕ) × (i < op.count) × Undescribed config b op i

    abbrev asked : ℕ → Bool
    asked k = q18 config b op (family_of k) (actor_of k)

    fails : (f : Family) → q18 config b op f Device ≡ false
        → (i : ℕ) × (i < op.count) × (transfer config b op f i ≡ false)
    unfolding q18
    fails f h = below_fails op.count (transfer config b op f) (ap not h)

    failed : (f : Family) (i : ℕ) → i < op.count → transfer config b op f i ≡ false → q18 config b op f Device ≡ false
    unfolding q18
    failed f i l h =
        not-true (below op.count (transfer config b op f))
        (λ k. no_both (transfer config b op f i) (below_at op.count (transfer config b op f) k i l) h)

    no_18 : (asked op.code ≡ false) ↔ Some
    no_18 = ((λ h. go (bool_cases (eqb op.code 2)) (bool_cases (eqb op.code 4)) h), back)
      where
        go : (eqb op.code 2 ≡ true) ⊎ (eqb op.code 2 ≡ false)
            → (eqb op.code 4 ≡ true) ⊎ (eqb op.code 4 ≡ false) → asked op.code ≡ false → Some
        go (inl k) j h =
            let c = eqb-true op.code 2 k in
            let (i, l, m) = fails Write (subst (λ (x : ℕ). asked x ≡ false) c h) in
            (i, l, inl (c, (write_no op i).0 m))
        go (inr k) (inl j) h =
            let c = eqb-true op.code 4 j in
            let (i, l, m) = fails Copy (subst (λ (x : ℕ). asked x ≡ false) c h) in
            (i, l, inr (c, (copy_no op i).0 m))
        go (inr k) (inr j) h =
            absurd (no_both (asked op.code)
            (other op.code (eqb-false op.code 2 k) (eqb-false op.code 4 j)) h)

        back : Some → asked op.code ≡ false
        back (i, l, inl (c, k)) =
            subst (λ (x : ℕ). asked x ≡ false) (sym c) (failed Write i l ((write_no op i).1 k))
        back (i, l, inr (c, k)) =
            subst (λ (x : ℕ). asked x ≡ false) (sym c) (failed Copy i l ((copy_no op i).1 k))

-- the theorem: every call of a source
pub refusal_18_on : (source : Source) → Fits source → Refusal18On source
refusal_18_on source fits accepted area bytes answer =
    let r = (call_first_no source area bytes answer).each accepted 18 (omega arith) in (
      (λ h. let y = r.0 h in (y.0, (now y.0).0 y.1)),
      λ q. r.1 (q.0, (now q.0).1 q.1),
    )
  where
    op : Operation
    op = (read_operation bytes).1

    b : State
    b = view source.room area

    -- question 9 is a yes before 18 is asked
    now : EachYes (before 18 (call_questions source area bytes answer))
        → (q18 (config_of source) b op (family_of op.code) (actor_of op.code) ≡ false)
        ↔ ((i : ℕ) × (i < op.count) × Undescribed (config_of source) b op i)
    now y =
        no_18 (config_of source) b
        (formed-live source.room (config_of source) (fits.roomy accepted) b y.1.1.0) op

-- of every file
pub refusal_18 : Refusal18
refusal_18 file = refusal_18_on (file_source file) (file-fits file)
