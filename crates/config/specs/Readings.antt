-- What the readers of a group answer.
use Rattle.std.specs.Prelude.{ℕ, List, Result, cond, leb}
use Rattle.model.specs.Answers.{reading_of}
use Rattle.model.specs.Config.{serial_edition, most_serial}
use Rattle.model.specs.ConfigFile.{field_at, Progress}
use Rattle.model.specs.Field.{Field, Value}
use Rattle.model.specs.declared.Question.{Question}

-- what a reader answers, and what the table then holds
abbrev pub progress : {T : Type 0} → Result ℕ Question → T → Progress T
progress r t = record { reading = reading_of r; table = t }

-- request N7: a serial in a file of an edition; before there were serials it is 0, and takes no byte
unfoldable pub serial_at : List ℕ → ℕ → ℕ → Field
serial_at s edition at = cond (leb serial_edition edition) (field_at s at 0 most_serial) (Value 0 at)
