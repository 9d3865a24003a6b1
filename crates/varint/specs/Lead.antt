-- How many bytes of a number stand before its last.
use Rattle.std.specs.Prelude.{ℕ, ◌≡◌, ◌<◌, ◌≤◌, List, Option, None, Some, length}
use Rattle.model.specs.Number.{most_bytes, lead}

-- so many, fewer than a number has bytes at most; or there are more, or no last byte
abbrev pub IsNearLead : Option ℕ → List ℕ → Type 0
IsNearLead (Some n) s = (n ≡ lead s) × (n < most_bytes) × (n < length s)
IsNearLead None s = lead s < length s → most_bytes ≤ lead s
