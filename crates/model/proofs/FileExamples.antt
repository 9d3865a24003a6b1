-- Request N1: the worked examples over file L, computed.
use mathlib.Core.Path.{◌≡◌, refl}
use mathlib.Core.List.{[], ◌∷◌, ◌++◌}
use lib.ListN.{replicate}
use Rattle.model.specs.Number.{bytes_of}
use Rattle.model.specs.ConfigFile.{load}
use Rattle.model.specs.ConfigWrite.{
  rows_from,
  row_bytes,
  rows_bytes,
  file_of,
  in_row,
  in_ranges,
  write_question,
  write_answer,
  write_area,
}
use Rattle.model.specs.Examples.{file_l, file_answer}
use Rattle.model.specs.Written.{Length, Short}

-- N1: file L, loaded and written, into areas of 44, 45 and 46 bytes
rewritten : file_of (load file_l).config ≡ file_l
unfolding file_answer bytes_of rows_from row_bytes rows_bytes file_of
rewritten = refl

short : write_answer (load file_l).config 44 ≡ Short 45
unfolding file_answer bytes_of rows_from row_bytes rows_bytes file_of in_row in_ranges write_question write_answer
short = refl

exact : write_answer (load file_l).config 45 ≡ Length 45
unfolding file_answer bytes_of rows_from row_bytes rows_bytes file_of in_row in_ranges write_question write_answer
exact = refl

behind : write_area (load file_l).config (replicate 46 9) ≡ file_l ++ (9 ∷ [])
unfolding file_answer bytes_of rows_from row_bytes rows_bytes file_of in_row in_ranges write_question write_answer
    write_area
behind = refl
