-- The gates of before, computed: document 01's worked example, and what requests changed.
use Rattle.std.specs.Prelude.{ℕ, zero, suc, ◌+◌, ◌≡◌, refl, List, [], ◌∷◌, ◌++◌, map, true, length, set, replicate}
use Rattle.model.specs.Config.{small_room, blank_objects, blank_devices, blank_values}
use Rattle.model.specs.Older.{older_view, older_layout, older_formed}
use Rattle.model.specs.Questions.{q11}
use Rattle.model.specs.Examples.{
  file_l,
  file_answer,
  operation_answer,
  operations_p,
  calling,
  session_of,
  session,
}
use Rattle.model.specs.declared.Config.{Config}
use Rattle.continuity.specs.Past.{
  Past,
  base,
  before_rings,
  before_green,
  before_locks,
  before_serials,
  load_in,
  coded,
  reading_in,
  judge_in,
  length_in,
  fresh_in,
  operate_in,
  answers_in,
}
use Rattle.continuity.specs.Records.{most_record, asks11}

-- the answers of a session over file L
unfoldable pub session_in : Past → List (List ℕ) → List ℕ
unfolding session session_of load_in coded reading_in judge_in older_view older_layout older_formed fresh_in operate_in
session_in past operations =
    answers_in past file_l (fresh_in past file_l (replicate (length_in past small_room) 0)).1 (map calling operations)

-- document 01, 'Office program and examples': the sequence marked P, put to the gate of document 01
pub base_P : session_in base operations_p ≡ 0 ∷ 0 ∷ 0 ∷ 0 ∷ 0 ∷ 0 ∷ 0 ∷ 20 ∷ 19 ∷ 19 ∷ 17 ∷ 13 ∷ 16 ∷ 15 ∷ 0 ∷ 0 ∷ []
unfolding session_in
base_P = refl

-- a plain zone, a green one, a lock, a zone of number 70,000: what each gate could not read, it answered 10
abbrev pub four : List (List ℕ)
four = (5 ∷ 1 ∷ []) ∷ (13 ∷ 2 ∷ []) ∷ (14 ∷ 1 ∷ []) ∷ (5 ∷ 240 ∷ 162 ∷ 4 ∷ []) ∷ []

pub four_sessions : map (λ (past : Past). session_in past four)
    (base ∷ before_rings ∷ before_green ∷ before_locks ∷ before_serials ∷ [])
    ≡ (0 ∷ 10 ∷ 10 ∷ 10 ∷ []) ∷ (0 ∷ 10 ∷ 10 ∷ 10 ∷ []) ∷ (0 ∷ 10 ∷ 10 ∷ 10 ∷ []) ∷ (0 ∷ 0 ∷ 10 ∷ 10 ∷ [])
    ∷ (0 ∷ 0 ∷ 0 ∷ 10 ∷ []) ∷ []
unfolding session_in
four_sessions = refl

pub four_now : session four ≡ 0 ∷ 0 ∷ 0 ∷ 11 ∷ []
unfolding session
four_now = refl

-- file L with a hardcoded value that writes its card's descriptor: question 6 refused it before N4
unfoldable pub file_in : Past → List ℕ → ℕ
unfolding file_answer load_in
file_in past file = (load_in past file).answer

pub ring_answers : map (λ (past : Past). file_in past (set file_l 27 3)) (base ∷ before_rings ∷ before_green ∷ [])
    ≡ 6 ∷ 6 ∷ 0 ∷ []
unfolding file_in
ring_answers = refl

-- the longest record: driver 1 writes sixteen raw bytes into each of objects 135 to 128 of a line that has them
abbrev pub long_items : ℕ → List ℕ
long_items zero = []
long_items (suc n) = ((128 + n) ∷ 1 ∷ 1 ∷ replicate 16 255) ++ long_items n

abbrev pub longest : List ℕ
longest = 1 ∷ 1 ∷ 8 ∷ long_items 8

abbrev pub long_line : Config
long_line =
    record {
      counts = record { edition = 1; drivers = 1; devices = 0; objects = 135; values = 0 };
      objects = blank_objects;
      devices = blank_devices;
      values = blank_values;
    }

pub longest-read : (operation_answer longest ≡ 0) × (length longest ≡ most_record) × (asks11 long_line longest ≡ true)
unfolding operation_answer q11
longest-read = (refl, refl, refl)
