-- Bytes of a list that are numbered.
use Rattle.std.specs.Prelude.{ℕ, ◌+◌, ◌*◌, List, cond, get_or, set}
use Rattle.model.specs.Config.{from1to}

-- the byte of number n of 1 to `many`, which stand `step` apart behind place `before`, and 0 for another number; and
-- the list with v in its place
unfoldable pub byte_of : List ℕ → ℕ → ℕ → ℕ → ℕ → ℕ
byte_of s before step many n = cond (from1to n many) (get_or s (before + step * n) 0) 0

unfoldable pub with_byte : List ℕ → ℕ → ℕ → ℕ → ℕ → ℕ → List ℕ
with_byte s before step many n v = cond (from1to n many) (set s (before + step * n) v) s
