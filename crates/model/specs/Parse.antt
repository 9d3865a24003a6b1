-- Document 01, question 10: an operation read up to a place, 0 and the operation so far; or 10.
use Rattle.std.specs.Prelude.{ℕ}
use Rattle.model.specs.declared.Operation.{Operation}

pub record Parse : Type 0 where
  pub answer : ℕ
  pub at : ℕ
  pub operation : Operation
