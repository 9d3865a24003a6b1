-- Document 01, 'What the gate covers' and 'The questions': the two calls, making a fresh state and an operation.
use Rattle.std.specs.Prelude.{ℕ, List}
use Rattle.model.specs.ConfigFile.{load}
use Rattle.model.specs.State.{records}
use Rattle.model.specs.Operation.{read_operation}
use Rattle.model.specs.declared.Config.{Config}
use Rattle.model.specs.Loaded.{Loaded}
use Rattle.model.specs.Gate.{freshened, Outcome, operated}

-- document 01, 'What the gate covers' ('The library loads a line file'): what a call works on, that is what was loaded,
-- with its answer, and how many object records the state area has
pub record Source : Type 0 where
  pub loaded : Loaded
  pub room : ℕ

abbrev pub config_of : Source → Config
config_of source = source.loaded.config

-- document 01, 'Line file', and request N2: a file, with the room that its line asks for
abbrev pub file_source : List ℕ → Source
file_source file = record { loaded = load file; room = records (load file).config }

-- document 01, 'State area': making a fresh state gives the answer and the state area
unfoldable pub fresh_on : Source → List ℕ → ℕ × List ℕ
fresh_on source area = freshened source.room source.loaded area

-- document 01, 'What the gate covers': one operation call
unfoldable pub operate_on : Source → List ℕ → List ℕ → List ℕ → Outcome
operate_on source area bytes answer = operated source.room source.loaded (read_operation bytes) area answer
