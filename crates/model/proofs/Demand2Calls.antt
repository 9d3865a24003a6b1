-- Demand 2 on whole operation calls: accepted exactly if each of the twenty-three questions is a yes; with 1 to 18
-- and 23 a yes, refused by 19, 20 or 21 exactly where the rules of the closure give an entry for it, and by 22 where a
-- value breaks the rule of a green zone; and by 23, with those before it a yes, exactly by the device's lock.
use Prim.Native.Nat.{ℕ, zero, suc}
use mathlib.Core.Path.{◌≡◌, refl, sym, ap, ◌∙◌, subst}
use mathlib.Core.Logic.{◌↔◌, ◌⊎◌, inl, inr}
use mathlib.Core.List.{List}
use mathlib.Core.Bool.{Bool, true, false, false≢true}
use native.Mathlib.Omega.{arith}
use lib.ListN.{length}
use lib.Dec.{leb, eqb}
use borrow.Author.Tests.{eqb-true, eq-eqb, le-leb, leb-true}
use Rattle.model.specs.ConfigFile.{load}
use Rattle.model.specs.State.{State, lock_of, green, records, area_length, well_formed}
use Rattle.model.specs.Closure.{active}
use Rattle.model.specs.Operation.{family_of, actor_of, read_operation}
use Rattle.model.specs.Effect.{answer_bytes, apply, concerned}
use Rattle.model.specs.Questions.{actor_exists, q11, q14, q16, itself, q22, judge}
use Rattle.model.specs.Gate.{or_else, verdict, outcome, applied, operate}
use Rattle.model.specs.Demand2 as D
use Rattle.model.specs.Demand2.{
  config_in,
  operation_in,
  family_in,
  actor_in,
  state_in,
  Upto10,
  AllYes,
  Acceptance,
  ByDriver,
  drivers_zone,
  SomeCrosses,
  Refusal19,
  Leaving,
  SomeNames,
  SomeClings,
  Refusal20,
  SomeBreaks,
  Refusal22,
  Entering,
  RingEnters,
  Entering22,
  Refusal21,
  Locking,
  Unlocking,
  Refusal23,
  Demand2,
}
use Rattle.model.specs.declared.Family.{Family}
use Rattle.model.specs.declared.Family.TheVariants.{Write, Copy, Activate, Deactivate, Lock, Unlock}
use Rattle.model.specs.declared.Actor.{Actor}
use Rattle.model.specs.declared.Actor.TheVariants.{Driver, Device, External}
use Rattle.model.specs.declared.Config.{Config}
use Rattle.model.specs.declared.Operation.{Operation}
use Rattle.model.proofs.Lists.{from1to-low, from1to-high}
use Rattle.model.proofs.Accepted.{load-sound}
use Rattle.model.proofs.ClosureLaws.{reads-active}
use Rattle.model.proofs.FileQuestions.{file-yes}
use Rattle.model.proofs.Facts.{Upto18}
use Rattle.model.proofs.Demand2.{
  ask_true,
  Crossing,
  Naming,
  write_19,
  copy_19,
  deactivate_20,
  Green22,
  green_22,
  activate_22,
  activate_21,
}
use Rattle.model.proofs.GreenRefusals.{Clinging}
use Rattle.model.proofs.Moves.{actor_exists_lem}
use Rattle.model.proofs.LockAnswers.{lock-bit, activate_23, lock_23, unlock_23}
use Rattle.model.proofs.OperationRange.{read-ranged}
use Rattle.model.proofs.FreshAnswers.{or_zero}
use Rattle.model.proofs.Answers as answers
use Rattle.model.proofs.Answers.{answer-zero}

module _ (file area bytes answer : List ℕ) where
  abbrev op : Operation
  op = operation_in bytes

  abbrev config : Config
  config = config_in file

  abbrev state : State
  state = state_in file area

  -- 0 exactly if each is a yes
  accepted-yes : answers.AllYes file area bytes answer → AllYes file area bytes answer
  accepted-yes y =
      let p = y.p11-23 in
      record {
        y1_18 = record {
          y1_10 = record {
            y1_6 = (file-yes file).0 y.p1-6;
            y7 = eqb-true (length area) (area_length (records config)) y.p7;
            y8 = leb-true answer_bytes (length answer) y.p8;
            y9 = y.p9;
            y10 = y.p10;
          };
          y11 = p.p11;
          y12 = p.p12;
          y13 = p.p13;
          y14 = p.p14;
          y15 = p.p15;
          y16 = p.p16;
          y23 = p.p23;
          y17 = p.p17;
          y18 = p.p18;
        };
        y19 = p.p19;
        y20 = p.p20;
        y22 = p.p22;
        y21 = p.p21;
      }

  yes-accepted : AllYes file area bytes answer → answers.AllYes file area bytes answer
  yes-accepted y =
      let u = y.y1_18 in
      let t = u.y1_10 in
      record {
        p1-6 = (file-yes file).1 t.y1_6;
        p7 = eq-eqb (length area) (area_length (records config)) t.y7;
        p8 = le-leb answer_bytes (length answer) t.y8;
        p9 = t.y9;
        p10 = t.y10;
        p11-23 = record {
          p11 = u.y11;
          p12 = u.y12;
          p13 = u.y13;
          p14 = u.y14;
          p15 = u.y15;
          p16 = u.y16;
          p17 = u.y17;
          p18 = u.y18;
          p19 = y.y19;
          p20 = y.y20;
          p21 = y.y21;
          p22 = y.y22;
          p23 = u.y23;
        };
      }

  -- with 1 to 10 a yes, a call answers what 11 to 23 answer
  answered : (n : ℕ) → (outcome (records config) n config op area answer).0 ≡ n
  answered zero = refl
  answered (suc n) = refl

  module _ (u : Upto10 file area bytes answer) where
    call_judged : (operate file area bytes answer).0 ≡ judge config state op (family_in bytes) (actor_in bytes)
    unfolding operate
    call_judged =
        answered (or_else (load file).answer (verdict (records config) config (read_operation bytes) area answer))
        ∙ (or_zero (load file).answer _ ((file-yes file).1 u.y1_6)
        ∙ (ask_true 7 (eqb (length area) (area_length (records config))) _
        (eq-eqb (length area) (area_length (records config)) u.y7)
        ∙ (ask_true 8 (leb answer_bytes (length answer)) _ (le-leb answer_bytes (length answer) u.y8)
        ∙ (ask_true 9 (well_formed (records config) config state) _ u.y9
        ∙ or_zero (read_operation bytes).0 _ u.y10))))

    judged_as : (f : Family) (a : Actor) → family_in bytes ≡ f → actor_in bytes ≡ a
        → (operate file area bytes answer).0 ≡ judge config state op f a
    judged_as f a d e =
        call_judged ∙ (ap (λ (g : Family). judge config state op g (actor_in bytes)) d
        ∙ ap (λ (b : Actor). judge config state op f b) e)

  module _ (u : D.Upto18 file area bytes answer) where
    -- 11 to 18, for the family and actor of a code
    upto : (f : Family) (a : Actor) → family_in bytes ≡ f → actor_in bytes ≡ a → Upto18 config state op f a
    upto f a d e =
        subst (λ (b : Actor). Upto18 config state op f b) e
        (subst (λ (g : Family). Upto18 config state op g (actor_in bytes)) d (record {
          p11 = u.y11;
          p12 = u.y12;
          p13 = u.y13;
          p14 = u.y14;
          p15 = u.y15;
          p16 = u.y16;
          p23 = u.y23;
          p17 = u.y17;
          p18 = u.y18;
        }))

    applied_as : (f : Family) (a : Actor) → family_in bytes ≡ f → actor_in bytes ≡ a
        → apply config op f a state ≡ applied config op state
    applied_as f a d e =
        sym (ap (λ (g : Family). apply config op g (actor_in bytes) state) d
        ∙ ap (λ (b : Actor). apply config op f b state) e)

    -- questions 19 and 21: both are about the state that would follow
    crossed : (b : State) → Crossing config b ↔ SomeCrosses config b
    crossed b = (
      (λ q. let (c, o, v, e, r, m, k) = q in (c, o, v, e, reads-active r, r, m, k)),
      λ q. let (c, o, v, e, a, r, m, k) = q in (c, o, v, e, r, m, k),
    )

    by_search : (n : ℕ) (f : Family) (a : Actor) → family_in bytes ≡ f → actor_in bytes ≡ a
        → (judge config state op f a ≡ n) ↔ Crossing config (apply config op f a state)
        → ((operate file area bytes answer).0 ≡ n) ↔ SomeCrosses config (applied config op state)
    by_search n f a d e w =
        let i = applied_as f a d e in
        let j = judged_as u.y1_10 f a d e in (
          (λ h. subst (SomeCrosses config) i ((crossed (apply config op f a state)).0 (w.0 (sym j ∙ h)))),
          λ q. j ∙ w.1 ((crossed (apply config op f a state)).1 (subst (SomeCrosses config) (sym i) q)),
        )

    driver_19 : ByDriver op → green state (drivers_zone state op) ≡ false
        → ((operate file area bytes answer).0 ≡ 19) ↔ SomeCrosses config (applied config op state)
    driver_19 (inl h) plain =
        by_search 19 Write Driver (ap family_of h) (ap actor_of h)
        (write_19 config state op (upto Write Driver (ap family_of h) (ap actor_of h)) plain)
    driver_19 (inr h) plain =
        by_search 19 Copy Driver (ap family_of h) (ap actor_of h)
        (copy_19 config state op (upto Copy Driver (ap family_of h) (ap actor_of h)) plain)

    -- question 22: a write or a copy in a green zone
    by_green : (f : Family) → family_in bytes ≡ f → actor_in bytes ≡ Driver → Green22 config state op f
        → green state (drivers_zone state op) ≡ true
        → (((operate file area bytes answer).0 ≡ 22) ↔ SomeBreaks config state op (family_in bytes))
        × ((operate file area bytes answer).0 ≡ 19 → ⊥)
    by_green f d e rule g =
        let j = judged_as u.y1_10 f Driver d e in
        let w = rule (upto f Driver d e) g in
        let breaks : Family → Type 0 = λ x. SomeBreaks config state op x in (
          ((λ h. subst breaks (sym d) (w.0.0 (sym j ∙ h))), λ q. j ∙ w.0.1 (subst breaks d q)),
          λ h. w.1 (sym j ∙ h),
        )

    driver_22 : ByDriver op → green state (drivers_zone state op) ≡ true
        → (((operate file area bytes answer).0 ≡ 22) ↔ SomeBreaks config state op (family_in bytes))
        × ((operate file area bytes answer).0 ≡ 19 → ⊥)
    driver_22 (inl h) g = by_green Write (ap family_of h) (ap actor_of h) (green_22 config state op).0 g
    driver_22 (inr h) g = by_green Copy (ap family_of h) (ap actor_of h) (green_22 config state op).1 g

    device_22 : Entering op
        → ((operate file area bytes answer).0 ≡ 22) ↔ ((green state op.partition ≡ true) × RingEnters config op)
    device_22 h =
        let j = judged_as u.y1_10 Activate Device (ap family_of h) (ap actor_of h) in
        let w = activate_22 config state op (upto Activate Device (ap family_of h) (ap actor_of h)) in
        ((λ k. w.0 (sym j ∙ k)), λ q. j ∙ w.1 q)

    device_21 : Entering op → q22 config state op (family_in bytes) (actor_in bytes) ≡ true
        → ((operate file area bytes answer).0 ≡ 21) ↔ SomeCrosses config (applied config op state)
    device_21 h y =
        by_search 21 Activate Device (ap family_of h) (ap actor_of h)
        (activate_21 config state op (upto Activate Device (ap family_of h) (ap actor_of h))
        (subst (λ (a : Actor). q22 config state op Activate a ≡ true) (ap actor_of h)
        (subst (λ (f : Family). q22 config state op f (actor_in bytes) ≡ true) (ap family_of h) y)))

    -- question 20: 'another device' is a device other than the one that leaves, which there is in code 11 alone
    module _ (a : Actor) (code : actor_in bytes ≡ a)
        (other : (c : ℕ) → (c ≡ itself op a → ⊥) → op.code ≡ 11 → c ≡ op.subject → ⊥)
        (apart : (c : ℕ) → active state c ≡ true → (op.code ≡ 11 → c ≡ op.subject → ⊥) → c ≡ itself op a → ⊥) where
      named : Naming config state op a ↔ SomeNames config state op
      named = (
        (λ q. let (c, o, v, e, r, m, d, k) = q in (
          c,
          o,
          v,
          e,
          reads-active r,
          other c d,
          r,
          m,
          subst (λ (b : Actor). concerned config op b e.object ≡ true) (sym code) k,
        )),
        λ q. let (c, o, v, e, l, d, r, m, k) = q in
            (c, o, v, e, r, m, apart c l d, subst (λ (b : Actor). concerned config op b e.object ≡ true) code k),
      )

      by_20 : family_in bytes ≡ Deactivate
          → ((operate file area bytes answer).0 ≡ 20) ↔ (SomeNames config state op ⊎ SomeClings config state op)
      by_20 d =
          let w = deactivate_20 config state op a (upto Deactivate a d code) in
          let j = judged_as u.y1_10 Deactivate a d code in
          ((λ h. to (w.0 (sym j ∙ h))), λ q. j ∙ w.1 (from q))
        where
          to : Naming config state op a ⊎ Clinging config state op a
              → SomeNames config state op ⊎ SomeClings config state op
          to (inl q) = inl (named.0 q)
          to (inr q) = inr (subst (Clinging config state op) (sym code) q)

          from : SomeNames config state op ⊎ SomeClings config state op
              → Naming config state op a ⊎ Clinging config state op a
          from (inl q) = inl (named.1 q)
          from (inr q) = inr (subst (Clinging config state op) code q)

    -- number 0 names no active device
    no_zero : (c : ℕ) → active state c ≡ true → c ≡ 0 → ⊥
    no_zero c h e = false≢true (subst (λ (n : ℕ). active state n ≡ true) e h)

    leaving_20 : Leaving op
        → ((operate file area bytes answer).0 ≡ 20) ↔ (SomeNames config state op ⊎ SomeClings config state op)
    leaving_20 (inl h) =
        by_20 Driver (ap actor_of h) (λ c d k. absurd (omega arith)) (λ c l d. no_zero c l) (ap family_of h)
    leaving_20 (inr (inl h)) =
        by_20 Device (ap actor_of h) (λ c d k. d) (λ c l d. d h) (ap family_of h)
    leaving_20 (inr (inr h)) =
        by_20 External (ap actor_of h) (λ c d k. absurd (omega arith)) (λ c l d. no_zero c l) (ap family_of h)

module _ (file area bytes answer : List ℕ) (u : Upto10 file area bytes answer) where
  -- a device that exists is one of the sixteen
  subject_bit : actor_exists (config_in file) Device (operation_in bytes).subject ≡ true
      → (lock_of (state_in file area) (operation_in bytes).subject ≡ 0 → ⊥)
      ↔ (lock_of (state_in file area) (operation_in bytes).subject ≡ 1)
  subject_bit x =
      lock-bit (records (config_in file)) (config_in file) (state_in file area) u.y9 (operation_in bytes).subject
      (from1to-low (operation_in bytes).subject (config_in file).counts.devices x)
      (omega (
        arith,
        from1to-high (operation_in bytes).subject (config_in file).counts.devices x,
        (load-sound file ((file-yes file).1 u.y1_6)).few.devices,
      ))

  -- the questions before 23, for the family and actor of a code
  module _ (f : Family) (d : family_in bytes ≡ f) (e : actor_in bytes ≡ Device) where
    as_asked : (q : Family → Actor → Bool) → q (family_in bytes) (actor_in bytes) ≡ true → q f Device ≡ true
    as_asked q h = subst (λ (a : Actor). q f a ≡ true) e (subst (λ (g : Family). q g (actor_in bytes) ≡ true) d h)

    by_23 : {P Q : Type 0} → (judge (config_in file) (state_in file area) (operation_in bytes) f Device ≡ 23) ↔ P → P
        ↔ Q
        → ((operate file area bytes answer).0 ≡ 23) ↔ Q
    by_23 w v =
        let j = judged_as file area bytes answer u f Device d e in
        ((λ h. v.0 (w.0 (sym j ∙ h))), λ q. j ∙ w.1 (v.1 q))

-- demand 2: the seven statements
pub acceptance : Acceptance
acceptance file area bytes answer = (
  (λ h. accepted-yes file area bytes answer ((answer-zero file area bytes answer).0 h)),
  λ y. (answer-zero file area bytes answer).1 (yes-accepted file area bytes answer y),
)

pub refusal_19 : Refusal19
refusal_19 file area bytes answer u = driver_19 file area bytes answer u

pub refusal_20 : Refusal20
refusal_20 file area bytes answer u = leaving_20 file area bytes answer u

pub refusal_22 : Refusal22
refusal_22 file area bytes answer u = driver_22 file area bytes answer u

pub entering_22 : Entering22
entering_22 file area bytes answer u = device_22 file area bytes answer u

pub refusal_21 : Refusal21
refusal_21 file area bytes answer u = device_21 file area bytes answer u

pub refusal_23 : Refusal23
refusal_23 file area bytes answer u y11 y14 y16 = (taken, freed)
  where
    config : Config
    config = config_in file

    b : State
    b = state_in file area

    op : Operation
    op = operation_in bytes

    taken : Entering op ⊎ Locking op → ((operate file area bytes answer).0 ≡ 23) ↔ (lock_of b op.subject ≡ 1)
    taken (inl h) =
        let at = as_asked file area bytes answer u Activate (ap family_of h) (ap actor_of h) in
        let x = at (q11 config op) y11 in
        by_23 file area bytes answer u Activate (ap family_of h) (ap actor_of h)
        (activate_23 config b op ((read-ranged bytes u.y10).alone h) x (at (q14 b op) y14) (at (q16 b op) y16))
        (subject_bit file area bytes answer u (actor_exists_lem config op Activate Device x))
    taken (inr h) =
        let at = as_asked file area bytes answer u Lock (ap family_of h) (ap actor_of h) in
        let x = at (q11 config op) y11 in
        by_23 file area bytes answer u Lock (ap family_of h) (ap actor_of h)
        (lock_23 config b op x (at (q16 b op) y16))
        (subject_bit file area bytes answer u (actor_exists_lem config op Lock Device x))

    freed : Unlocking op → ((operate file area bytes answer).0 ≡ 23) ↔ (lock_of b op.subject ≡ 0)
    freed h =
        let at = as_asked file area bytes answer u Unlock (ap family_of h) (ap actor_of h) in
        by_23 file area bytes answer u Unlock (ap family_of h) (ap actor_of h)
        (unlock_23 config b op (at (q11 config op) y11) (at (q16 b op) y16)) ((λ z. z), λ z. z)

pub demand_2 : Demand2
demand_2 =
    record {
      accepted = acceptance;
      refused_19 = refusal_19;
      refused_20 = refusal_20;
      refused_22 = refusal_22;
      entering_22 = entering_22;
      refused_21 = refusal_21;
      refused_23 = refusal_23;
    }
