-- Bytes put down in an area that is lent, as far as there is room.
use Rattle.std.specs.Prelude.{ℕ, zero, suc, ◌+◌, ◌≤◌, min, ◌≡◌, List, [], ◌∷◌, length, take}

-- the area with the text put down from a place on; what does not fit is left out, and every other byte stays
unfoldable pub laid : List ℕ → ℕ → List ℕ → List ℕ
laid t at [] = []
laid [] at (o ∷ out) = o ∷ out
laid (b ∷ t) zero (o ∷ out) = b ∷ laid t zero out
laid (b ∷ t) (suc at) (o ∷ out) = o ∷ laid (b ∷ t) at out

-- the place after it, within the area
unfoldable pub reaches : List ℕ → ℕ → List ℕ → ℕ
reaches t at out = min (at + length t) (length out)

-- a text was put down at a place: r is the place after it, out' the area
abbrev pub Put : List ℕ → ℕ → List ℕ → ℕ → List ℕ → Type 0
Put t at out r out' = (r ≡ reaches t at out) × (out' ≡ laid t at out)

-- the same, where r is the place after all of it, whether or not there was room
abbrev pub Placed : List ℕ → ℕ → List ℕ → ℕ → List ℕ → Type 0
Placed t at out r out' = (r ≡ at + length t) × (out' ≡ laid t at out)

-- r counts bytes at the start of an area, in the form in which a part of it can be lent
abbrev pub Counts : ℕ → List ℕ → Type 0
Counts r out = (r ≤ length out) × (r ≡ length (take r out))
