-- A refusal is told by its question's number, which is never 0. Assumes nothing.
use mathlib.Core.Path.{◌≡◌}
use native.Mathlib.Omega.{arith}
use Rattle.model.specs.Answers.{number_of}
use Rattle.model.specs.declared.Question.{Question}
use Rattle.model.specs.declared.Question.TheVariants.{
  LastByte,
  ShortestForm,
  InRange,
  NothingLeft,
  Paired,
  Restrained,
  StateLength,
  AnswerRoom,
  WellFormed,
  Readable,
  Named,
  NamedOnce,
  KindsFit,
  StatusFits,
  LeftEmpty,
  ActivityFits,
  Placed,
  Described,
  Confined,
  Unnamed,
  EntersConfined,
  KeepsGreen,
  LockFits,
}

pub some : (q : Question) → number_of q ≡ 0 → ⊥
some LastByte h = absurd (omega (arith, h))
some ShortestForm h = absurd (omega (arith, h))
some InRange h = absurd (omega (arith, h))
some NothingLeft h = absurd (omega (arith, h))
some Paired h = absurd (omega (arith, h))
some Restrained h = absurd (omega (arith, h))
some StateLength h = absurd (omega (arith, h))
some AnswerRoom h = absurd (omega (arith, h))
some WellFormed h = absurd (omega (arith, h))
some Readable h = absurd (omega (arith, h))
some Named h = absurd (omega (arith, h))
some NamedOnce h = absurd (omega (arith, h))
some KindsFit h = absurd (omega (arith, h))
some StatusFits h = absurd (omega (arith, h))
some LeftEmpty h = absurd (omega (arith, h))
some ActivityFits h = absurd (omega (arith, h))
some Placed h = absurd (omega (arith, h))
some Described h = absurd (omega (arith, h))
some Confined h = absurd (omega (arith, h))
some Unnamed h = absurd (omega (arith, h))
some EntersConfined h = absurd (omega (arith, h))
some KeepsGreen h = absurd (omega (arith, h))
some LockFits h = absurd (omega (arith, h))
