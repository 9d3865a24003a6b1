-- A call that tells of a transfer which a device can make is answered 0, and leaves the state after the transfer.
use Prim.Native.Nat.{ℕ, ◌≤◌}
use mathlib.Core.Path.{◌≡◌, refl, sym, ap, ◌∙◌, subst}
use mathlib.Core.Logic.{◌⊎◌, inl, inr}
use mathlib.Core.List.{List}
use mathlib.Core.Bool.{Bool, true, false, not, ◌&&◌, ◌||◌, cond, beq, false≢true, true≢false}
use native.Mathlib.Omega.{arith}
use lib.ListN.{length, get_or}
use lib.Dec.{leb, eqb}
use borrow.Author.Tests.{eqb-true, eqb-false, eq-eqb, ne_eqb, le-leb, leb-true}
use Rattle.model.specs.Base.{below, put}
use Rattle.model.specs.Config.{kind_of, owner_of, owns, from1to, descriptor, hardcoded_to, Entry}
use Rattle.model.specs.State.{State, with_content, content_of, held, value_bytes, layout, same_bytes, green}
use Rattle.model.specs.Closure.{active, live, described}
use Rattle.model.specs.Operation.{object_at, second_at, form_at, family_of, actor_of, read_operation}
use Rattle.model.specs.Effect.{apply, item_bytes, answer_bytes}
use Rattle.model.specs.Questions.{
  q11,
  q12,
  q13,
  q14,
  q15,
  q16,
  q17,
  q18,
  q19,
  q20,
  q21,
  q22,
  q23,
  is_kind,
  is_object,
  zone_of,
  item_exists,
  item_fits,
  read_entry,
  write_entry,
  transfer,
  ask,
  judge,
}
use Rattle.model.specs.Gate.{or_else, applied, judged}
use Rattle.sources.specs.Gate.{Source, config_of, file_source, operate_on}
use Rattle.model.specs.Trace as Trace
use Rattle.model.specs.Trace.{CanRead, Transfer, Described, fitting, written_bytes, contents_after, after}
use Rattle.model.specs.Separation.{Call, after_call}
use Rattle.sources.specs.Reports.{
  ReportsWrite,
  ReportsRead,
  Reports,
  Tells,
  Booked,
  ReportAcceptedOn,
  ReportAccepted,
}
use Rattle.model.specs.declared.Family.TheVariants.{Write, Copy}
use Rattle.model.specs.declared.Actor.TheVariants.{Device}
use Rattle.model.specs.declared.Config.{Config}
use Rattle.model.specs.declared.Operation.{Operation}
use Rattle.model.proofs.Lists.{
  and_l,
  and_r,
  both_true,
  or_true,
  or_left,
  or_right,
  bool_cases,
  from1to-low,
  from1to-high,
  from1to_intro,
}
use Rattle.model.proofs.Accepted.{Sound}
use Rattle.model.proofs.Hardcoded.{hardcoded-class}
use Rattle.model.proofs.Facts.{owns-low, owns-high, owns-class, owns-owner, Passed}
use Rattle.sources.proofs.Stores.{Kept}
use Rattle.model.proofs.Formed.{Formed, content-value}
use Rattle.model.proofs.ClosureExact.{described_now}
use Rattle.sources.proofs.TraceLaws.{hardcoded-live, transfer-inside}
use Rattle.model.proofs.Demand2.{judge_zero}
use Rattle.sources.proofs.Calls.{call_area, fresh_zero}
use Rattle.sources.proofs.Sources.{Fits, file-fits}
use Rattle.sources.proofs.Reached.{reached_verdict, reached_state}

-- a test over the items of an operation that has one
one-item : (n : ℕ) (p : ℕ → Bool) → n ≡ 1 → p 0 ≡ true → below n p ≡ true
one-item n p e h = subst (λ (k : ℕ). below k p ≡ true) (sym e) h

-- a device that can read a descriptor is active and has a hardcoded one
readable-active : {config : Config} {b : State} {c o : ℕ} → CanRead config b c o → active b c ≡ true
readable-active (Trace.own h k) = h
readable-active (Trace.next e r m h l ep) = readable-active r

readable-owner : {config : Config} {b : State} {c o : ℕ} → CanRead config b c o
    → (x : ℕ) × (hardcoded_to config c x ≡ true)
readable-owner (Trace.own {o = o} h k) = (o, k)
readable-owner (Trace.next e r m h l ep) = readable-owner r

-- and the descriptor is active
pub readable-live : {room : ℕ} (config : Config) (b : State) → Kept room config b → {c o : ℕ} → CanRead config b c o
    → live config b o ≡ true
readable-live config b kept (Trace.own {c = c} {o = o} h k) = hardcoded-live config b kept c o h k
readable-live config b kept (Trace.next e r m h l ep) = l

module _ {room : ℕ} (config : Config) (sound : Sound config) (b : State) (kept : Kept room config b)
    (formed : Formed room config b) where
  -- it is one of the line's devices
  pub readable-device : {c o : ℕ} → CanRead config b c o → from1to c config.counts.devices ≡ true
  readable-device {c} r =
      let (x, h) = readable-owner r in
      let o : owns config 2 c x ≡ true = and_r (eqb (kind_of config x) 4) (owns config 2 c x) h in
      let q =
      (sound.ranges.objects x (owns-low config 2 c x o) (owns-high config 2 c x o)).by_device_lem
      (owns-class config 2 c x o) in
      subst (λ (y : ℕ). from1to y config.counts.devices ≡ true) (owns-owner config 2 c x o)
      (from1to_intro (owner_of config x) config.counts.devices q.0 q.1)

  -- an active descriptor holds a value of the file
  held-value : (o : ℕ) → live config b o ≡ true → held b o ≤ config.counts.values
  held-value o l =
      let x : from1to o config.counts.objects ≡ true = search (and_l, and_r) in
      go x (from1to-low o config.counts.objects x) (from1to-high o config.counts.objects x)
      (or_true (and_r (from1to o config.counts.objects) (eqb (kind_of config o) 1 || eqb (kind_of config o) 4)
      (and_l (descriptor config o) _ l)))
    where
      go : from1to o config.counts.objects ≡ true → 1 ≤ o → o ≤ config.counts.objects
          → (eqb (kind_of config o) 1 ≡ true) ⊎ (eqb (kind_of config o) 4 ≡ true) → held b o ≤ config.counts.values
      go x low high (inl e) =
          leb-true (held b o) config.counts.values
          (and_l (leb (held b o) config.counts.values) (same_bytes (content_of b o) (value_bytes (held b o)))
          (content-value config o (content_of b o) high (eqb-true (kind_of config o) 1 e)
          (formed.contents o low (omega (arith, kept.roomy)))))
      go x low high (inr e) =
          let k : kind_of config o ≡ 4 = eqb-true (kind_of config o) 4 e in
          let q =
          (sound.ranges.objects o low high).by_device_lem (hardcoded-class config sound.pairs o low high k) in
          subst (λ (v : ℕ). v ≤ config.counts.values)
          (sym (ap (λ (c : List ℕ). get_or c 0 0) (kept.hardcoded o x k)))
          (sound.ranges.hardcoded (owner_of config o) q.0 q.1)

  -- one transfer that is described
  module _ (t : Transfer) (d : Described config b t) where
    pub entry_range : (from1to t.object config.counts.objects ≡ true)
        × (t.entry.value ≤ config.counts.values)
    entry_range =
        let r =
        sound.ranges.members (held b t.descriptor)
        (held-value t.descriptor (readable-live config b kept d.readable))
        d.listed in (
          subst (λ (n : ℕ). from1to n config.counts.objects ≡ true) d.named
              (from1to_intro t.entry.object config.counts.objects r.object-least r.object-most),
          r.stored-most,
        )

    not_4 : not (is_kind config 4 t.object) ≡ true
    not_4 = ap not (ne_eqb (kind_of config t.object) 4 (transfer-inside config b kept t d).1)

    -- question 18 finds the entry
    now : (ok : Entry → Bool) → ok t.entry ≡ true → described config b t.device ok ≡ true
    now ok h =
        (described_now config b (hardcoded-live config b kept) t.device ok).1
        (t.descriptor, t.entry, d.readable, d.listed, h)

    -- an operation that tells of a write
    module _ (writing : t.writing ≡ true) (op : Operation) (r : ReportsWrite config t op) where
      exists : is_object config (object_at op 0) ≡ true
      exists = subst (λ (n : ℕ). is_object config n ≡ true) (sym r.object) entry_range.0

      -- the value or the bytes, by the object's kind
      abbrev Fitting : Type 0
      Fitting =
          (eqb (form_at op 0) 1 || leb (second_at op 0) config.counts.values ≡ true)
          × (beq (is_kind config 1 t.object) (eqb (form_at op 0) 0) ≡ true)
          × (not (is_kind config 1 t.object) || eqb t.entry.value (second_at op 0) ≡ true)
          × (item_bytes op 0 ≡ written_bytes config b t)

      form_fits : Fitting
      form_fits = go (bool_cases (is_kind config 1 t.object))
        where
          bytes_1 : (f : ℕ) → f ≡ 0 → (v w : ℕ) → v ≡ w → (k : Bool) → k ≡ true → (s u : List ℕ)
              → cond (eqb f 0) (value_bytes v) s ≡ cond k (value_bytes w) u
          bytes_1 f e v w p true q s u = rw e (ap value_bytes p)
          bytes_1 f e v w p false q s u = absurd (false≢true q)

          bytes_2 : (f : ℕ) → f ≡ 1 → (k j : Bool) → k ≡ false → j ≡ false → (v w s u x : List ℕ) → s ≡ x
              → cond (eqb f 0) v s ≡ cond k w (cond j u x)
          bytes_2 f e true j q i v w s u x p = absurd (true≢false q)
          bytes_2 f e false true q i v w s u x p = absurd (true≢false i)
          bytes_2 f e false false q i v w s u x p = rw e p

          go : (is_kind config 1 t.object ≡ true) ⊎ (is_kind config 1 t.object ≡ false) → Fitting
          go (inl k) =
              let (f, v) = r.value (eqb-true (kind_of config t.object) 1 k) in (
                or_right (eqb (form_at op 0) 1) _ (le-leb (second_at op 0) config.counts.values
                    (subst (λ (x : ℕ). x ≤ config.counts.values) (sym v) entry_range.1)),
                rw (k, f) refl,
                or_right (not (is_kind config 1 t.object)) _ (eq-eqb t.entry.value (second_at op 0) (sym v)),
                bytes_1 (form_at op 0) f (second_at op 0) t.entry.value v (is_kind config 1 t.object) k _ _,
              )
          go (inr k) =
              let (f, v) = r.bytes (eqb-false (kind_of config t.object) 1 k) in (
                or_left (eqb (form_at op 0) 1) _ (eq-eqb (form_at op 0) 1 f),
                rw (k, f) refl,
                or_left (not (is_kind config 1 t.object)) _ (ap not k),
                bytes_2 (form_at op 0) f (is_kind config 1 t.object) (is_kind config 4 t.object) k
                    (ne_eqb (kind_of config t.object) 4 (transfer-inside config b kept t d).1) _ _ _ _ t.bytes v,
              )

      write_passed : Passed config b op Write Device
      unfolding q11 q12 q13 q14 q15 q16 q17 q18 q19 q20 q21 q22 q23
      write_passed =
          record {
            p11 =
                both_true
                (both_true
                (subst (λ (c : ℕ). from1to c config.counts.devices ≡ true) (sym r.device)
                (readable-device d.readable)) refl)
                (one-item op.count (item_exists config op Write) r.one (both_true exists form_fits.0));
            p12 = one-item op.count _ r.one refl;
            p13 =
                one-item op.count (item_fits config op Write) r.one
                (subst (λ (n : ℕ). not (is_kind config 4 n) && beq (is_kind config 1 n) (eqb (form_at op 0) 0) ≡ true)
                (sym r.object) (both_true not_4 form_fits.1));
            p14 = refl;
            p15 = refl;
            p16 = subst (λ (c : ℕ). active b c ≡ true) (sym r.device) (readable-active d.readable);
            p17 = refl;
            p18 = one-item op.count (transfer config b op Write) r.one item_18;
            p19 = or_right (green b (zone_of b op Device)) true refl;
            p20 = refl;
            p21 = refl;
            p22 = refl;
            p23 = refl;
          }
        where
          item_18 : transfer config b op Write 0 ≡ true
          item_18 =
              subst (λ (c : ℕ). described config b c (write_entry config (object_at op 0) (second_at op 0)) ≡ true)
              (sym r.device)
              (subst (λ (n : ℕ). described config b t.device (write_entry config n (second_at op 0)) ≡ true)
              (sym r.object)
              (now (write_entry config t.object (second_at op 0))
              (both_true (both_true (eq-eqb t.entry.object t.object d.named)
              (subst (λ (w : Bool). fitting w t.entry ≡ true) writing d.fits)) form_fits.2)))

      write-after : apply config op Write Device b ≡ with_content b (contents_after true config b t)
      unfolding apply
      write-after =
          rw (r.one, r.object)
          (ap (λ (c : List ℕ). with_content b (put b.content t.object c)) form_fits.3)

    -- an operation that tells of a read
    module _ (reading : t.writing ≡ false) (op : Operation) (r : ReportsRead t op) where
      read_passed : Passed config b op Copy Device
      unfolding q11 q12 q13 q14 q15 q16 q17 q18 q19 q20 q21 q22 q23
      read_passed =
          record {
            p11 =
                both_true
                (both_true
                (subst (λ (c : ℕ). from1to c config.counts.devices ≡ true) (sym r.device)
                (readable-device d.readable)) refl)
                (one-item op.count (item_exists config op Copy) r.one
                (both_true (subst (λ (n : ℕ). is_object config n ≡ true) (sym r.object) entry_range.0)
                (none (is_object config (second_at op 0)))));
            p12 = one-item op.count _ r.one refl;
            p13 =
                one-item op.count (item_fits config op Copy) r.one
                (both_true (subst (λ (n : ℕ). not (is_kind config 4 n) ≡ true) (sym r.object) not_4)
                (none (not (is_kind config 4 (second_at op 0))
                && beq (is_kind config 1 (object_at op 0)) (is_kind config 1 (second_at op 0)))));
            p14 = refl;
            p15 = refl;
            p16 = subst (λ (c : ℕ). active b c ≡ true) (sym r.device) (readable-active d.readable);
            p17 = refl;
            p18 = one-item op.count (transfer config b op Copy) r.one
                (both_true item_18
                (none (described config b op.subject (write_entry config (second_at op 0) (held b (object_at op 0))))));
            p19 = or_right (green b (zone_of b op Device)) true refl;
            p20 = refl;
            p21 = refl;
            p22 = refl;
            p23 = refl;
          }
        where
          none : (u : Bool) → eqb (second_at op 0) 0 || u ≡ true
          none u = or_left (eqb (second_at op 0) 0) u (eq-eqb (second_at op 0) 0 r.nowhere)

          item_18 : described config b op.subject (read_entry (object_at op 0)) ≡ true
          item_18 =
              subst (λ (c : ℕ). described config b c (read_entry (object_at op 0)) ≡ true) (sym r.device)
              (subst (λ (n : ℕ). described config b t.device (read_entry n) ≡ true) (sym r.object)
              (now (read_entry t.object)
              (both_true (eq-eqb t.entry.object t.object d.named)
              (subst (λ (w : Bool). fitting w t.entry ≡ true) reading d.fits))))

      read-after : apply config op Copy Device b ≡ with_content b (contents_after false config b t)
      unfolding apply
      read-after = rw (r.one, r.nowhere) refl

    -- either: questions 11 to 23 pass, and the operation does what the transfer did
    abbrev Done : Operation → Type 0
    Done op = (judged config op b ≡ 0) × (applied config op b ≡ after config b t)

    told-write : t.writing ≡ true → (op : Operation) → ReportsWrite config t op → Done op
    told-write w op r = (
      subst (λ (k : ℕ). judge config b op (family_of k) (actor_of k) ≡ 0) (sym r.code)
          ((judge_zero config b op Write Device).1 (write_passed w op r)),
      ap (λ (k : ℕ). apply config op (family_of k) (actor_of k) b) r.code
          ∙ (write-after w op r ∙ ap (λ (s : Bool). with_content b (contents_after s config b t)) (sym w)),
    )

    told-read : t.writing ≡ false → (op : Operation) → ReportsRead t op → Done op
    told-read w op r = (
      subst (λ (k : ℕ). judge config b op (family_of k) (actor_of k) ≡ 0) (sym r.code)
          ((judge_zero config b op Copy Device).1 (read_passed w op r)),
      ap (λ (k : ℕ). apply config op (family_of k) (actor_of k) b) r.code
          ∙ (read-after w op r ∙ ap (λ (s : Bool). with_content b (contents_after s config b t)) (sym w)),
    )

    pub told-done : (op : Operation) → Reports t.writing config t op → Done op
    told-done op r = go t.writing refl r
      where
        go : (w : Bool) → t.writing ≡ w → Reports w config t op → Done op
        go true e q = told-write e op q
        go false e q = told-read e op q

-- a call that tells of a transfer, on the area of a state as calls leave it
module _ (source : Source) (fits : Fits source) (accepted : source.loaded.answer ≡ 0) where
  abbrev config : Config
  config = config_of source

  pub report_booked : (b : State) → Kept source.room config b → Formed source.room config b → (area : List ℕ)
      → area ≡ layout b → (t : Transfer) → Described config b t → (c : Call) → Tells config t c
      → Booked source area b t c
  report_booked b kept formed area f t d c r =
      let op = (read_operation c.bytes).1 in
      let done = told-done config (fits.sound accepted) b kept formed t d op r.reports in
      let zero : (operate_on source area c.bytes c.answer).0 ≡ 0 =
      reached_verdict source fits accepted b kept formed area c.bytes c.answer f
      ∙ passing (leb answer_bytes (length c.answer)) (read_operation c.bytes).0 (judged config op b)
      (le-leb answer_bytes (length c.answer) r.roomy) r.readable done.0 in
      let book : after_call config b c.bytes (operate_on source area c.bytes c.answer).0
      ≡ after config b t =
      ap (after_call config b c.bytes) zero ∙ done.1 in
      record {
        accepted = zero;
        book = book;
        shown = call_area source fits accepted b kept area c.bytes c.answer f ∙ ap layout book;
      }
    where
      passing : (s : Bool) (n m : ℕ) → s ≡ true → n ≡ 0 → m ≡ 0 → ask 8 s (or_else n m) ≡ 0
      passing true n m e p q = rw p q
      passing false n m e p q = absurd (false≢true e)

-- the theorem: in every state that calls reach
pub report_accepted_on : (source : Source) → Fits source → ReportAcceptedOn source
report_accepted_on source fits area h calls t d c r =
    let s = reached_state source fits area h calls in
    report_booked source fits (fresh_zero source area h).0 _ s.0 s.1 _ s.2 t d c r

-- of every file
pub report_accepted : ReportAccepted
report_accepted file = report_accepted_on (file_source file) (file-fits file)
