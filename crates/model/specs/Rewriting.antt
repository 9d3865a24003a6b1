-- Request N1: a file that is loaded and written again, as C calls it and as the rewriting program does it.
use Rattle.std.specs.Prelude.{ℕ, zero, suc, ◌+◌, ◌*◌, List, [], cond, length, ltb}
use Rattle.model.specs.ConfigFile.{load}
use Rattle.model.specs.ConfigWrite.{file_of, write_answer, write_area}
use Rattle.model.specs.Office.{most_file, long_row, line_row}
use Rattle.model.specs.declared.Config.{Config}
use Rattle.model.specs.Written.{Written}
use Rattle.model.specs.Written.{Length, Refused, Short}

-- N1, 'For C': an answer that has a kind is kind * 2^32 + number: 0 done, 1 refused, 2 too short
abbrev pub kind_unit : ℕ
kind_unit = 4294967296

abbrev pub done_kind : ℕ
done_kind = 0

abbrev pub refused_kind : ℕ
refused_kind = 1

abbrev pub short_kind : ℕ
short_kind = 2

abbrev pub kind_of_answer : Written → ℕ
kind_of_answer (Length n) = done_kind
kind_of_answer (Refused q) = refused_kind
kind_of_answer (Short n) = short_kind

abbrev pub number_of_answer : Written → ℕ
number_of_answer (Length n) = n
number_of_answer (Refused q) = q
number_of_answer (Short n) = n

unfoldable pub coded : Written → ℕ
coded w = kind_of_answer w * kind_unit + number_of_answer w

-- N1, 'For C': a refused file's number is the load's; an accepted one is written
abbrev pub rewriting : ℕ → Config → ℕ → Written
rewriting zero config room = write_answer config room
rewriting (suc q) config room = Refused (suc q)

unfoldable pub rewrite_answer : List ℕ → ℕ → Written
rewrite_answer file room = rewriting (load file).answer (load file).config room

abbrev pub after_rewriting : ℕ → Config → List ℕ → List ℕ
after_rewriting zero config area = write_area config area
after_rewriting (suc q) config area = area

unfoldable pub rewrite_area : List ℕ → List ℕ → List ℕ
rewrite_area file area = after_rewriting (load file).answer (load file).config area

-- N1, 'Program': a refused file gives `line`, a space and the number; an accepted one nothing
abbrev pub refusal_text : ℕ → List ℕ
refusal_text zero = []
refusal_text (suc q) = line_row (suc q)

-- how long the text is at most: `line`, a space, a digit and the end of the row
abbrev pub most_word : ℕ
most_word = 7

-- N1, 'Program': what it prints; a file that is longer gives `long`
unfoldable pub rewrite_text : List ℕ → List ℕ
rewrite_text file = cond (ltb most_file (length file)) long_row (refusal_text (load file).answer)

-- N1, 'Program': what `line.out` then holds, where anything is written
abbrev pub accepted_file : ℕ → Config → List ℕ
accepted_file zero config = file_of config
accepted_file (suc q) config = []

unfoldable pub rewrite_file : List ℕ → List ℕ
rewrite_file file = cond (ltb most_file (length file)) [] (accepted_file (load file).answer (load file).config)
