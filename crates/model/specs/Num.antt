-- Document 01, questions 1 and 2: the number at a place, with the place after it; or why there is none.
use Rattle.std.specs.Prelude.{ℕ}
use Rattle.model.specs.declared.Fault.{Fault}

pub data Num : Type 0 where
  Got : ℕ → ℕ → Num
  Bad : Fault → Num
