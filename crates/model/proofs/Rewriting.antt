-- Request N1: what a file that is loaded and written again gives, for C and by the rewriting program.
use Prim.Native.Nat.{ℕ, zero, suc, ◌/◌, ◌%◌, ◌≤◌, ◌<◌}
use mathlib.Core.Path.{◌≡◌, refl, sym, ap, ◌∙◌}
use mathlib.Core.List.{List, [], ◌++◌}
use mathlib.Core.Bool.{Bool, true, false, cond}
use native.Mathlib.Omega.{arith}
use lib.ListN.{length, drop}
use lib.Dec.{leb, ltb}
use borrow.Author.Tests.{lt-ltb, le-ltb, le-leb, lt-leb}
use Rattle.model.specs.ConfigFile.{paired, restrained, load}
use Rattle.model.specs.ConfigWrite.{
  most_written,
  file_of,
  in_ranges,
  ask_first,
  write_question,
  writing,
  write_answer,
  after_writing,
  write_area,
}
use Rattle.model.specs.Office.{most_file, long_row, line_row}
use Rattle.model.specs.Rewriting.{
  kind_unit,
  kind_of_answer,
  number_of_answer,
  coded,
  rewriting,
  rewrite_answer,
  rewrite_area,
  most_word,
  refusal_text,
  rewrite_text,
  rewrite_file,
}
use Rattle.model.specs.declared.Config.{Config}
use Rattle.model.specs.Written.{Written}
use Rattle.model.specs.Written.{Length, Refused, Short}
use Rattle.model.proofs.NumberBytes.{Bytes}
use Rattle.model.proofs.Accepted.{load_answers}
use Rattle.model.proofs.FileWritten.{writable}
use Rattle.model.proofs.FileLoaded.{loaded_written}
use Rattle.model.proofs.FileLength.{file-most}
use Rattle.model.proofs.Writable.{loaded_sound}
use Rattle.model.proofs.OfficeLaws.{decimal_one}

-- ---- the writer by its ways out
module _ (config : Config) where
  pub write_refused : (q room : ℕ) → q ≡ write_question config → (q ≡ 0 → ⊥) → Refused q ≡ write_answer config room
  unfolding write_answer
  write_refused zero room e h = absurd (h refl)
  write_refused (suc q) room e h = rw (← e)

  pub write_refused-area : (q : ℕ) (area : List ℕ) → q ≡ write_question config → (q ≡ 0 → ⊥)
      → area ≡ write_area config area
  unfolding write_area
  write_refused-area q area e h = rw (← write_refused q (length area) e h)

  module _ (q n : ℕ) (e : q ≡ write_question config) (z : q ≡ 0) (l : n ≡ length (file_of config)) where
    pub write_short : (area : List ℕ) → length area < n
        → (Short n ≡ write_answer config (length area)) × (area ≡ write_area config area)
    unfolding write_area write_answer
    write_short area h =
        let k : length area < length (file_of config) = omega arith in
        rw (← e, z, lt-leb (length (file_of config)) (length area) k) (ap Short l, refl)

    pub write_done : (area after : List ℕ) → n ≤ length area → after ≡ file_of config ++ drop n area
        → (Length n ≡ write_answer config (length area)) × (after ≡ write_area config area)
    unfolding write_area write_answer
    write_done area after h a =
        let k : length (file_of config) ≤ length area = omega arith in
        rw (← e, z, le-leb (length (file_of config)) (length area) k)
        (ap Length l, a ∙ ap (λ (j : ℕ). file_of config ++ drop j area) l)

-- ---- a file for C
module _ (file : List ℕ) where
  -- a refused file: the load's question, and the area as it was
  pub rewrite_refused : (q room : ℕ) (area : List ℕ) → q ≡ (load file).answer → (q ≡ 0 → ⊥)
      → (Refused q ≡ rewrite_answer file room) × (area ≡ rewrite_area file area)
  unfolding rewrite_answer rewrite_area
  rewrite_refused zero room area e h = absurd (h refl)
  rewrite_refused (suc q) room area e h = rw (← e) (refl, refl)

  -- an accepted one is written
  pub rewrite_written : (q room : ℕ) (area : List ℕ) → q ≡ (load file).answer → q ≡ 0
      → (write_answer (load file).config room ≡ rewrite_answer file room)
      × (write_area (load file).config area ≡ rewrite_area file area)
  unfolding rewrite_answer rewrite_area
  rewrite_written q room area e z = rw (← e, z) (refl, refl)

  -- N1: as the very bytes that it came from
  pub rewrite_same : Bytes file → (load file).answer ≡ 0 → (area : List ℕ)
      → (rewrite_answer file (length area)
      ≡ cond (leb (length file) (length area)) (Length (length file)) (Short (length file)))
      × (rewrite_area file area ≡ cond (leb (length file) (length area)) (file ++ drop (length file) area) area)
  unfolding write_answer write_area
  rewrite_same bytes h area =
      let w = rewrite_written 0 (length area) area (sym h) refl in
      rw (← w.0, ← w.1, loaded_sound file h, loaded_written file bytes h)
      (refl, go (leb (length file) (length area)))
    where
      go : (b : Bool) → after_writing (cond b (Length (length file)) (Short (length file))) file area
          ≡ cond b (file ++ drop (length file) area) area
      go true = refl
      go false = refl

-- ---- answers that have a kind
small-number : (config : Config) (room q : ℕ) → q ≡ write_question config → q < kind_unit
    → number_of_answer (writing q (length (file_of config)) room) < kind_unit
small-number config room zero e h =
    go (leb (length (file_of config)) room) (file-most config (writable config (sym e)).0)
  where
    go : (b : Bool) → length (file_of config) ≤ most_written
        → number_of_answer (cond b (Length (length (file_of config))) (Short (length (file_of config)))) < kind_unit
    go true m = omega arith
    go false m = omega arith
small-number config room (suc q) e h = h

-- no question of the writer has a larger number than 6
question_most : (config : Config) → write_question config ≤ 6
unfolding write_question
question_most config = go (in_ranges config) (paired config) (restrained config)
  where
    go : (a b c : Bool) → ask_first 3 a (ask_first 5 b (ask_first 6 c 0)) ≤ 6
    go true true true = omega arith
    go true true false = omega arith
    go true false c = omega arith
    go false b c = omega arith

-- N1: the number of an answer is below the unit of kinds, so that C can take the two apart
pub write_number : (config : Config) (room : ℕ) → number_of_answer (write_answer config room) < kind_unit
unfolding write_answer
write_number config room =
    small-number config room (write_question config) refl (omega (arith, question_most config))

pub rewrite_number : (file : List ℕ) (room : ℕ) → number_of_answer (rewrite_answer file room) < kind_unit
unfolding rewrite_answer
rewrite_number file room = go (load file).answer (load_answers file)
  where
    go : (q : ℕ) → q ≤ 6 → number_of_answer (rewriting q (load file).config room) < kind_unit
    go zero h = write_number (load file).config room
    go (suc q) h = omega arith

-- N1: kind and number are what the answer's number divides into
pub coded-kind : (w : Written) → number_of_answer w < kind_unit
    → (coded w / kind_unit ≡ kind_of_answer w) × (coded w % kind_unit ≡ number_of_answer w)
unfolding coded
coded-kind (Length n) h = (omega arith, omega arith)
coded-kind (Refused q) h = (omega arith, omega arith)
coded-kind (Short n) h = (omega arith, omega arith)

-- ---- the program
module _ (file : List ℕ) where
  pub program_long : most_file < length file → (rewrite_text file ≡ long_row) × (rewrite_file file ≡ [])
  unfolding rewrite_text rewrite_file
  program_long h = rw (lt-ltb most_file (length file) h) (refl, refl)

  module _ (l : length file ≤ most_file) where
    pub program_refused : (q : ℕ) → q ≡ (load file).answer → (q ≡ 0 → ⊥)
        → (rewrite_text file ≡ line_row q) × (rewrite_file file ≡ [])
    unfolding rewrite_text rewrite_file
    program_refused zero e h = absurd (h refl)
    program_refused (suc q) e h = rw (le-ltb most_file (length file) l, ← e) (refl, refl)

    pub program_accepted : (load file).answer ≡ 0
        → (rewrite_text file ≡ []) × (rewrite_file file ≡ file_of (load file).config)
    unfolding rewrite_text rewrite_file
    program_accepted h = rw (le-ltb most_file (length file) l, h) (refl, refl)

    -- N1: an accepted file is put down as it came
    pub program_same : Bytes file → (load file).answer ≡ 0 → (rewrite_text file ≡ []) × (rewrite_file file ≡ file)
    program_same bytes h =
        let p = program_accepted h in
        (p.0, p.1 ∙ loaded_written file bytes h)

-- N1: no text is longer than a row of one digit
line_most : (q : ℕ) → q ≤ 6 → length (line_row q) ≤ most_word
line_most q h = rw (decimal_one q (omega arith)) (omega arith)

pub text_most : (file : List ℕ) → length (rewrite_text file) ≤ most_word
unfolding rewrite_text
text_most file = go (ltb most_file (length file)) (load file).answer (load_answers file)
  where
    go : (b : Bool) (q : ℕ) → q ≤ 6 → length (cond b long_row (refusal_text q)) ≤ most_word
    go true q h = omega arith
    go false zero h = omega arith
    go false (suc q) h = line_most (suc q) h
