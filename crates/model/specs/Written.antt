-- Request N1, 'For C': an answer that has a kind. Of a configuration that was to be written: the length of its file;
-- the question that it answers with no; or the length that the area would need. Other calls tell another number in
-- place of the first.
use Rattle.std.specs.Prelude.{ℕ}

pub data Written : Type 0 where
  Length : ℕ → Written
  Refused : ℕ → Written
  Short : ℕ → Written
