-- Request N7: what was said of a file before there were serials and large numbers, and what is said of it now.
use Rattle.std.specs.Prelude.{ℕ, ◌≡◌, ◌⊎◌, List}
use Rattle.model.specs.Number.{number_at}
use Rattle.model.specs.Config.{serial_edition, first_limits}
use Rattle.model.specs.ConfigFile.{load_to, load}
use Rattle.model.specs.Gate.{make_fresh, operate}
use Rattle.model.specs.Serials.{Marked}
use Rattle.model.specs.Num.{Got}

-- every file: the same, or a number that was too large is out of its field's range now, or it is of edition 2
pub data Since (file : List ℕ) : Type 0 where
  same : load file ≡ load_to first_limits file → Since file
  large : (load_to first_limits file).answer ≡ 2 → (load file).answer ≡ 3 → Since file
  later : (next : ℕ) → number_at file 0 ≡ Got serial_edition next → (load_to first_limits file).answer ≡ 3 → Since file

abbrev pub FilesSince : Type 0
FilesSince = (file : List ℕ) → Since file

-- a file of edition 1 is accepted now exactly if it was, with the same configuration, and one that was refused by q is
-- refused by q, or by 3 where q was 2
abbrev pub FirstEdition : Type 0
FirstEdition =
    (file : List ℕ) (next : ℕ) → number_at file 0 ≡ Got 1 next
    → (load file ≡ load_to first_limits file) ⊎ (((load_to first_limits file).answer ≡ 2) × ((load file).answer ≡ 3))

-- request N7: serials are told, not judged. Two accepted files whose configurations differ in edition and serials alone
-- have the same fresh state and the same calls
abbrev pub SilentFiles : Type 0
SilentFiles =
    (file other : List ℕ) → (load file).answer ≡ 0 → (load other).answer ≡ 0
    → Marked (load file).config (load other).config
    → ((area : List ℕ) → make_fresh other area ≡ make_fresh file area)
    × ((area bytes answer : List ℕ) → operate other area bytes answer ≡ operate file area bytes answer)
