-- Demand 2 on a whole operation call: answer 0 exactly if every question is answered yes; a refusal leaves both areas.
use Prim.Native.Nat.{ℕ, zero, suc}
use mathlib.Core.Path.{◌≡◌, refl, sym, ◌∙◌}
use mathlib.Core.Logic.{◌↔◌}
use mathlib.Core.List.{List}
use mathlib.Core.Bool.{true}
use lib.ListN.{length}
use lib.Dec.{leb, eqb}
use Rattle.model.specs.State.{State, area_length, view, well_formed}
use Rattle.model.specs.Operation.{family_of, actor_of, read_operation}
use Rattle.model.specs.Effect.{answer_bytes}
use Rattle.model.specs.Gate.{or_else, verdict, outcome}
use Rattle.sources.specs.Gate.{Source, config_of, operate_on}
use Rattle.model.specs.declared.Config.{Config}
use Rattle.model.specs.declared.Operation.{Operation}
use Rattle.model.proofs.Facts.{Passed, asked}
use Rattle.model.proofs.Calls.{or_else_zero}
use Rattle.model.proofs.Demand2.{ask_true, judge_zero}

module _ (source : Source) (area bytes answer : List ℕ) where
  abbrev config : Config
  config = config_of source

  abbrev room : ℕ
  room = source.room

  abbrev op : Operation
  op = (read_operation bytes).1

  abbrev state : State
  state = view room area

  -- questions 1 to 23, each answered yes
  pub record AllYes : Type 0 where
    pub p1-6 : source.loaded.answer ≡ 0
    pub p7 : eqb (length area) (area_length room) ≡ true
    pub p8 : leb answer_bytes (length answer) ≡ true
    pub p9 : well_formed room config state ≡ true
    pub p10 : (read_operation bytes).0 ≡ 0
    pub p11-23 : Passed config state op (family_of op.code) (actor_of op.code)

  abbrev number : ℕ
  number = or_else source.loaded.answer (verdict room config (read_operation bytes) area answer)

  answered : (n : ℕ) → (outcome room n config op area answer).0 ≡ n
  answered zero = refl
  answered (suc n) = refl

  number-zero : number ≡ 0 → AllYes
  number-zero h =
      let h₆ = or_else_zero source.loaded.answer _ h in
      let h₇ = asked 6 (eqb (length area) (area_length room)) _ h₆.1 in
      let h₈ = asked 7 (leb answer_bytes (length answer)) _ h₇.1 in
      let h₉ = asked 8 (well_formed room config state) _ h₈.1 in
      let h₁₀ = or_else_zero (read_operation bytes).0 _ h₉.1 in
      record {
        p1-6 = h₆.0;
        p7 = h₇.0;
        p8 = h₈.0;
        p9 = h₉.0;
        p10 = h₁₀.0;
        p11-23 = (judge_zero config state op (family_of op.code) (actor_of op.code)).0 h₁₀.1;
      }

  or_zero : (n rest : ℕ) → n ≡ 0 → or_else n rest ≡ rest
  or_zero n rest h = rw h

  yes-number : AllYes → number ≡ 0
  yes-number y =
      or_zero source.loaded.answer _ y.p1-6
      ∙ (ask_true 7 (eqb (length area) (area_length room)) _ y.p7
      ∙ (ask_true 8 (leb answer_bytes (length answer)) _ y.p8
      ∙ (ask_true 9 (well_formed room config state) _ y.p9
      ∙ (or_zero (read_operation bytes).0 _ y.p10
      ∙ (judge_zero config state op (family_of op.code) (actor_of op.code)).1 y.p11-23))))

  pub answer-zero : ((operate_on source area bytes answer).0 ≡ 0) ↔ AllYes
  unfolding operate_on
  answer-zero = ((λ h. number-zero (sym (answered number) ∙ h)), λ y. answered number ∙ yes-number y)

  -- any refusal leaves the state and answer areas unchanged
  pub refusal-leaves : ((operate_on source area bytes answer).0 ≡ 0 → ⊥)
      → ((operate_on source area bytes answer).1 ≡ area) × ((operate_on source area bytes answer).2 ≡ answer)
  unfolding operate_on
  refusal-leaves h = go number h
    where
      go : (n : ℕ) → ((outcome room n config op area answer).0 ≡ 0 → ⊥)
          → ((outcome room n config op area answer).1 ≡ area)
          × ((outcome room n config op area answer).2 ≡ answer)
      go zero k = absurd (k refl)
      go (suc n) k = (refl, refl)
