-- Document 01, 'Line file' and questions 1 and 2: numbers in groups of seven bits, lowest group first; every byte but
-- a number's last has 128 added; shortest form only.
use Rattle.std.specs.Prelude.{ℕ, ◌<◌, List, get_or}

-- what a file, an area and a record have for elements: every element of s is a byte
abbrev pub Bytes : List ℕ → Type 0
Bytes s = (i : ℕ) → get_or s i 0 < 256
