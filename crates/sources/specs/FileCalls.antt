-- What a source has to do with a file: the calls, the answers, the areas and the plain books of a file's source are
-- those of the file, as `model` defines them.
use Rattle.std.specs.Prelude.{ℕ, ◌≡◌, List}
use Rattle.model.specs.ConfigFile.{load}
use Rattle.model.specs.Gate.{make_fresh, operate}
use Rattle.model.specs.Separation as Files
use Rattle.model.specs.Separation.{Call}
use Rattle.sources.specs.Gate.{file_source, fresh_on, operate_on}
use Rattle.sources.specs.Separation.{answers_of, area_after, final}

-- making a fresh state, and one call
abbrev pub FileFresh : Type 0
FileFresh = (file area : List ℕ) → fresh_on (file_source file) area ≡ make_fresh file area

abbrev pub FileOperate : Type 0
FileOperate =
    (file area bytes answer : List ℕ) → operate_on (file_source file) area bytes answer ≡ operate file area bytes answer

-- a list of calls: what it is answered, and the area after it
abbrev pub FileAnswers : Type 0
FileAnswers =
    (file area : List ℕ) (calls : List Call)
    → answers_of (file_source file) area calls ≡ Files.answers_of file area calls

abbrev pub FileAreas : Type 0
FileAreas =
    (file area : List ℕ) (calls : List Call)
    → area_after (file_source file) area calls ≡ Files.area_after file area calls

-- the plain book after it
abbrev pub FileBooks : Type 0
FileBooks =
    (file area : List ℕ) (calls : List Call)
    → final (file_source file) area calls ≡ Files.final file (load file).config area calls
