-- Document 01, 'Line file': the counts, with the place after them; or the question that ended the reading.
use Rattle.std.specs.Prelude.{ℕ}
use Rattle.model.specs.declared.Counts.{Counts}

pub data Head : Type 0 where
  Counted : Counts → ℕ → Head
  Stopped : ℕ → Head
