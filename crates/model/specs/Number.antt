-- Document 01, 'Line file' and questions 1 and 2: numbers in groups of seven bits, lowest group first; every byte but
-- a number's last has 128 added; shortest form only.
use Rattle.std.specs.Prelude.{ℕ, zero, suc, ◌+◌, ◌*◌, ◌/◌, ◌%◌, List, [], ◌∷◌}
use Rattle.std.specs.Prelude.{Bool, cond, ◌&&◌, ◌||◌, length, get_or, drop, ltb, leb, eqb}
use Rattle.model.specs.declared.Fault.TheVariants.{Cut, Form}
use Rattle.model.specs.Num.{Num}
use Rattle.model.specs.Num.{Got, Bad}

-- the largest number (request N7: what three full groups hold), and how many bytes one has at most
abbrev pub most_number : ℕ
most_number = 2097151

-- the largest number before request N7
abbrev pub most_before : ℕ
most_before = 65535

abbrev pub most_bytes : ℕ
most_bytes = 3

-- how many bytes from the head on have 128 added, up to the first that has not
unfoldable pub lead : List ℕ → ℕ
lead [] = 0
lead (b ∷ s) = cond (ltb b 128) 0 (suc (lead s))

-- the value of the number at the head, with n bytes before its last
unfoldable pub value_of : List ℕ → ℕ → ℕ
value_of [] n = 0
value_of (b ∷ t) zero = b
value_of (b ∷ t) (suc n) = b % 128 + 128 * value_of t n

-- a last byte of 0 is allowed only where it is the sole byte
unfoldable pub shortest : List ℕ → ℕ → Bool
shortest t n = eqb n 0 || ltb 0 (get_or t n 0)

-- question 2: at most three bytes, shortest form, at most the largest number
unfoldable pub formed_to : ℕ → List ℕ → ℕ → Bool
formed_to most t n = ltb n most_bytes && shortest t n && leb (value_of t n) most

abbrev pub formed : List ℕ → ℕ → Bool
formed t n = formed_to most_number t n

-- the number at the head of t, which stands at `at`, with n bytes before its last
unfoldable pub form_to : ℕ → ℕ → List ℕ → ℕ → Num
form_to most at t n = cond (formed_to most t n) (Got (value_of t n) (at + n + 1)) (Bad Form)

abbrev pub form_at : ℕ → List ℕ → ℕ → Num
form_at at t n = form_to most_number at t n

-- question 1: without a last byte a number is cut, however long it is
unfoldable pub head_to : ℕ → ℕ → List ℕ → Num
head_to most at t = cond (ltb (lead t) (length t)) (form_to most at t (lead t)) (Bad Cut)

abbrev pub head_at : ℕ → List ℕ → Num
head_at at t = head_to most_number at t

-- the number at a place of s
unfoldable pub number_to : ℕ → List ℕ → ℕ → Num
number_to most s at = head_to most at (drop at s)

abbrev pub number_at : List ℕ → ℕ → Num
number_at s at = number_to most_number s at

-- document 01, 'Line file': how many bytes a number up to `most` has at most
abbrev pub bytes_to : ℕ → ℕ
bytes_to most = cond (ltb most 128) 1 (cond (ltb most 16384) 2 most_bytes)

-- document 01, 'Line file' and request N1: the shortest form of a number, in groups of seven bits, the lowest first;
-- the last byte is below 128. A number is at most the largest, so that there are at most three
unfoldable pub bytes_of : ℕ → List ℕ
bytes_of v =
    cond (ltb v 128) (v ∷ [])
    (cond (ltb v 16384) ((v % 128 + 128) ∷ (v / 128) ∷ [])
    ((v % 128 + 128) ∷ (v / 128 % 128 + 128) ∷ (v / 16384) ∷ []))
