-- The rows of a session put down in an area that is lent.
use Rattle.std.specs.Prelude.{ℕ, ◌≡◌, List}
use Rattle.model.specs.Separation.{area_after}
use Rattle.model.specs.Office.{Session, calls_of, answer_after, session_text}
use Rattle.page.specs.Page.{Put}

-- a session's rows were put down, after `place` records, and its calls made: what is left of the three areas
abbrev pub Rows : List ℕ → Session → ℕ → List ℕ → List ℕ → ℕ → List ℕ → ℕ → List ℕ → List ℕ → List ℕ → Type 0
Rows file s place area answer at out r area' answer' out' =
    Put (session_text file area answer place s) at out r out'
    × (area' ≡ area_after file area (calls_of file area answer s.bytes))
    × (answer' ≡ answer_after file area answer s.bytes)
