-- Document 01, 'The questions': how far the file is read, up to a place; or the question that ended it.
use Rattle.std.specs.Prelude.{ℕ}

pub data Reading : Type 0 where
  At : ℕ → Reading
  Refused : ℕ → Reading
