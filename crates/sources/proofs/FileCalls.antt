-- The calls, the answers, the areas and the plain books of a file's source are those of the file.
use Prim.Native.Nat.{ℕ}
use mathlib.Core.Path.{refl, ap, ◌∙◌}
use mathlib.Core.List.{List, [], ◌∷◌}
use Rattle.model.specs.ConfigFile.{load}
use Rattle.model.specs.Gate.{make_fresh, Outcome, operate}
use Rattle.model.specs.Separation as Files
use Rattle.model.specs.Separation.{operations_of, state_after}
use Rattle.sources.specs.Gate.{file_source, fresh_on, operate_on}
use Rattle.sources.specs.Separation.{answers_of, area_after}
use Rattle.sources.specs.FileCalls.{FileFresh, FileOperate, FileAnswers, FileAreas, FileBooks}

pub file-fresh : FileFresh
unfolding make_fresh fresh_on
file-fresh file area = refl

pub file-operate : FileOperate
unfolding operate operate_on
file-operate file area bytes answer = refl

pub file_answers : FileAnswers
file_answers file area [] = refl
file_answers file area (c ∷ cs) =
    ap (λ (x : Outcome). x.0 ∷ answers_of (file_source file) x.1 cs)
    (file-operate file area c.bytes c.answer)
    ∙ ap (λ (ns : List ℕ). (operate file area c.bytes c.answer).0 ∷ ns)
    (file_answers file (operate file area c.bytes c.answer).1 cs)

pub file_areas : FileAreas
file_areas file area [] = refl
file_areas file area (c ∷ cs) =
    ap (λ (x : Outcome). area_after (file_source file) x.1 cs) (file-operate file area c.bytes c.answer)
    ∙ file_areas file (operate file area c.bytes c.answer).1 cs

pub file_books : FileBooks
file_books file area calls =
    ap (state_after (load file).config (Files.initial (load file).config) (operations_of calls))
    (file_answers file area calls)
