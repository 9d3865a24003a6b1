-- A question has a number, which tells a refusal from none. Assumes nothing.
use mathlib.Core.Path.{◌≡◌}
use native.Mathlib.Omega.{arith}
use Rattle.model.specs.Answers.{number_of}
use Rattle.model.specs.declared.Question.{Question}
use Rattle.model.specs.declared.Question.TheVariants.{
  LastByte,
  ShortestForm,
  InRange,
  NothingLeft,
  Paired,
  Restrained,
  StateLength,
  AnswerRoom,
  WellFormed,
  Readable,
  Named,
  NamedOnce,
  KindsFit,
  StatusFits,
  LeftEmpty,
  ActivityFits,
  Placed,
  Described,
  Confined,
  Unnamed,
  EntersConfined,
  KeepsGreen,
  LockFits,
}

pub number_some : (q : Question) → number_of q ≡ 0 → ⊥
number_some LastByte e = omega arith
number_some ShortestForm e = omega arith
number_some InRange e = omega arith
number_some NothingLeft e = omega arith
number_some Paired e = omega arith
number_some Restrained e = omega arith
number_some StateLength e = omega arith
number_some AnswerRoom e = omega arith
number_some WellFormed e = omega arith
number_some Readable e = omega arith
number_some Named e = omega arith
number_some NamedOnce e = omega arith
number_some KindsFit e = omega arith
number_some StatusFits e = omega arith
number_some LeftEmpty e = omega arith
number_some ActivityFits e = omega arith
number_some Placed e = omega arith
number_some Described e = omega arith
number_some Confined e = omega arith
number_some Unnamed e = omega arith
number_some EntersConfined e = omega arith
number_some KeepsGreen e = omega arith
number_some LockFits e = omega arith
