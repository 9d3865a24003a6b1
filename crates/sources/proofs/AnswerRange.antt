-- The numbers that a call answers: 0, or one of the questions.
use Prim.Native.Nat.{ℕ, zero, suc, ◌≤◌}
use mathlib.Core.List.{List}
use mathlib.Core.Bool.{Bool, true, false}
use native.Mathlib.Omega.{arith}
use lib.ListN.{length}
use lib.Dec.{eqb, leb}
use Rattle.model.specs.State.{area_length, view, well_formed}
use Rattle.model.specs.Effect.{answer_bytes}
use Rattle.model.specs.Operation.{read_operation}
use Rattle.model.specs.Questions.{ask}
use Rattle.model.specs.Gate.{or_else, verdict, outcome}
use Rattle.sources.specs.Gate.{Source, operate_on}
use Rattle.model.specs.declared.Config.{Config}
use Rattle.model.specs.declared.Operation.{Operation}
use Rattle.model.proofs.AnswerRange.{most_answer, later_holds}

-- what holds of 0 and of the numbers of questions holds of the answer
module _ (P : ℕ → Type 0) where
  ask_holds : (n : ℕ) (t : Bool) (rest : ℕ) → P n → P rest → P (ask n t rest)
  ask_holds n true rest h k = k
  ask_holds n false rest h k = h

  or_else_holds : (n rest : ℕ) → P n → P rest → P (or_else n rest)
  or_else_holds zero rest h k = k
  or_else_holds (suc n) rest h k = h

abbrev AtMost : ℕ → Type 0
AtMost n = n ≤ most_answer

verdict-most : (room : ℕ) (config : Config) (bytes area answer : List ℕ)
    → verdict room config (read_operation bytes) area answer ≤ most_answer
verdict-most room config bytes area answer =
    ask_holds AtMost 7 (eqb (length area) (area_length room)) _ (omega arith)
    (ask_holds AtMost 8 (leb answer_bytes (length answer)) _ (omega arith)
    (ask_holds AtMost 9 (well_formed room config (view room area)) _ (omega arith)
    (later_holds AtMost (omega arith) (λ n low high. high) config (view room area) bytes)))

outcome-most : (room n : ℕ) (config : Config) (op : Operation) (area answer : List ℕ) → n ≤ most_answer
    → (outcome room n config op area answer).0 ≤ most_answer
outcome-most room zero config op area answer h = h
outcome-most room (suc n) config op area answer h = h

-- every call answers 0 or the number of a question, if what was loaded was answered so
pub operate-most_on : (source : Source) → source.loaded.answer ≤ most_answer → (area bytes answer : List ℕ)
    → (operate_on source area bytes answer).0 ≤ most_answer
unfolding operate_on
operate-most_on source most area bytes answer =
    let l = source.loaded in let r = read_operation bytes in
    let room = source.room in
    outcome-most room (or_else l.answer (verdict room l.config r area answer)) l.config r.1 area answer
    (or_else_holds AtMost l.answer _ most (verdict-most room l.config bytes area answer))
