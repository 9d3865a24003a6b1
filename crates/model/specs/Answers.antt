-- What the code answers, read as the answers of the definitions: a question is its number, a refusal the number of the
-- question, and 0 where nothing is refused.
use Rattle.std.specs.Prelude.{ℕ, Option, None, Some, Result, Ok, Err}
use Rattle.model.specs.declared.Fault.{Fault}
use Rattle.model.specs.declared.Question.{Question}
use Rattle.model.specs.declared.Question.TheVariants.{
  LastByte,
  ShortestForm,
  InRange,
  NothingLeft,
  Paired,
  Restrained,
  StateLength,
  AnswerRoom,
  WellFormed,
  Readable,
  Named,
  NamedOnce,
  KindsFit,
  StatusFits,
  LeftEmpty,
  ActivityFits,
  Placed,
  Described,
  Confined,
  Unnamed,
  EntersConfined,
  KeepsGreen,
  LockFits,
}
use Rattle.model.specs.declared.Counts.{Counts}
use Rattle.model.specs.declared.Config.{Config}
use Rattle.model.specs.declared.Operation.{Operation}
use Rattle.model.specs.declared.Unwritten.{Unwritten}
use Rattle.model.specs.Num.{Num, Got, Bad}
use Rattle.model.specs.Field.{Field, Value, No}
use Rattle.model.specs.Reading.{Reading, At}
use Rattle.model.specs.Head.{Head, Counted, Stopped}
use Rattle.model.specs.Loaded.{Loaded}
use Rattle.model.specs.Written.{Written, Length, Short}
use Rattle.model.specs.Parse.{Parse}
use Rattle.model.specs.ConfigFile.{accepted, refused}
use Rattle.model.specs.Operation as Operation

-- document 01, 'The questions': the number of a question
abbrev pub number_of : Question → ℕ
number_of LastByte = 1
number_of ShortestForm = 2
number_of InRange = 3
number_of NothingLeft = 4
number_of Paired = 5
number_of Restrained = 6
number_of StateLength = 7
number_of AnswerRoom = 8
number_of WellFormed = 9
number_of Readable = 10
number_of Named = 11
number_of NamedOnce = 12
number_of KindsFit = 13
number_of StatusFits = 14
number_of LeftEmpty = 15
number_of ActivityFits = 16
number_of Placed = 17
number_of Described = 18
number_of Confined = 19
number_of Unnamed = 20
number_of EntersConfined = 21
number_of KeepsGreen = 22
number_of LockFits = 23

-- document 01, 'The questions': the answer of a call or of a row of questions, 0 where each is a yes
abbrev pub answer_of : Result Unit Question → ℕ
answer_of (Ok u) = 0
answer_of (Err q) = number_of q

abbrev pub num_of : Result (ℕ × ℕ) Fault → Num
num_of (Ok p) = Got p.0 p.1
num_of (Err f) = Bad f

abbrev pub field_of : Result (ℕ × ℕ) Question → Field
field_of (Ok p) = Value p.0 p.1
field_of (Err q) = No (number_of q)

abbrev pub reading_of : Result ℕ Question → Reading
reading_of (Ok next) = At next
reading_of (Err q) = Reading.Refused (number_of q)

abbrev pub head_of : Result (Counts × ℕ) Question → Head
head_of (Ok p) = Counted p.0 p.1
head_of (Err q) = Stopped (number_of q)

abbrev pub loaded_of : Result Config Question → Loaded
loaded_of (Ok config) = accepted config
loaded_of (Err q) = refused (number_of q)

abbrev pub written_of : Result ℕ Unwritten → Written
written_of (Ok n) = Length n
written_of (Err (Unwritten.Refused q)) = Written.Refused (number_of q)
written_of (Err (Unwritten.Short n)) = Short n

abbrev pub parse_of : Option (ℕ × Operation) → Parse
parse_of (Some p) = Operation.read p.0 p.1
parse_of None = Operation.refused

abbrev pub parsed_of : Option Operation → Operation.Parsed
parsed_of (Some op) = (0, op)
parsed_of None = (10, Operation.unread)
