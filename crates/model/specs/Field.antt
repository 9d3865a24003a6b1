-- Document 01, questions 1 to 3: a number of the configuration file in its field's range, with the place after it; or
-- the question that it answers with no.
use Rattle.std.specs.Prelude.{ℕ}

pub data Field : Type 0 where
  Value : ℕ → ℕ → Field
  No : ℕ → Field
