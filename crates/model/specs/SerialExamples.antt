-- Request N7: its examples, computed.
use Rattle.std.specs.Prelude.{ℕ, ◌≡◌, refl, List, [], ◌∷◌, ◌++◌, map, length, take, drop}
use Rattle.model.specs.Examples.{file_l, file_answer, operations_p, session_of, session, printed}

-- N7: file L as edition 2, with the first card's serial and 0 as the second's
abbrev pub file_serial : List ℕ → List ℕ
file_serial serial = 2 ∷ take 22 (drop 1 file_l) ++ (1 ∷ serial ++ (2 ∷ 0 ∷ drop 25 file_l))

-- N7: 70,000 as bytes
abbrev pub seventy : List ℕ
seventy = 240 ∷ 162 ∷ 4 ∷ []

pub serials_length : length (file_serial seventy) ≡ 49
serials_length = refl

-- N7: serials 70,000, 0 and 2,097,151, which is the largest; a serial of three bytes whose last is 0, and one of four
-- bytes; L as edition 2 without serials, where the second card's number is read as the first's serial; editions 0, 3
-- and 70,000; 70,000 drivers; edition 2 without cards
pub serial_answers : map file_answer
    (file_serial seventy
    ∷ file_serial (0 ∷ [])
    ∷ file_serial (255 ∷ 255 ∷ 127 ∷ [])
    ∷ file_serial (240 ∷ 162 ∷ 0 ∷ [])
    ∷ file_serial (128 ∷ 128 ∷ 128 ∷ 1 ∷ [])
    ∷ (2 ∷ drop 1 file_l)
    ∷ (0 ∷ drop 1 file_l)
    ∷ (3 ∷ drop 1 file_l)
    ∷ (seventy ++ drop 1 file_l)
    ∷ (1 ∷ seventy)
    ∷ (2 ∷ 0 ∷ 0 ∷ 0 ∷ 0 ∷ []) ∷ [])
    ≡ 0 ∷ 0 ∷ 0 ∷ 2 ∷ 2 ∷ 3 ∷ 3 ∷ 3 ∷ 3 ∷ 3 ∷ 0 ∷ []
unfolding file_answer
serial_answers = refl

-- N7: the sequence P over L as edition 2
pub serial-session : session_of (file_serial seventy) operations_p
    ≡ 0 ∷ 0 ∷ 0 ∷ 0 ∷ 0 ∷ 0 ∷ 0 ∷ 20 ∷ 19 ∷ 19 ∷ 17 ∷ 13 ∷ 16 ∷ 15 ∷ 0 ∷ 0 ∷ []
unfolding session_of
serial-session = refl

-- N7: over L, 70,000 as partition, code, count, form, value and card
pub large_numbers : session
    ((5 ∷ seventy)
    ∷ (seventy ++ (1 ∷ []))
    ∷ (1 ∷ 1 ∷ seventy ++ (2 ∷ 0 ∷ 3 ∷ []))
    ∷ (1 ∷ 1 ∷ 1 ∷ 2 ∷ seventy ++ (3 ∷ []))
    ∷ (1 ∷ 1 ∷ 1 ∷ 2 ∷ 0 ∷ seventy)
    ∷ (8 ∷ seventy ++ (1 ∷ [])) ∷ [])
    ≡ 11 ∷ 10 ∷ 10 ∷ 10 ∷ 11 ∷ 11 ∷ []
unfolding session
large_numbers = refl

-- N7: a record's length of 70,000 is read, and the record is cut short
pub large_length : printed file_l (seventy ++ (5 ∷ 1 ∷ [])) ≡ 99 ∷ 117 ∷ 116 ∷ 10 ∷ []
unfolding printed
large_length = refl
