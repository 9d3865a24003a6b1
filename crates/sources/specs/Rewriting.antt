-- Request N1: a file that is loaded and written again, as C calls it and as the rewriting program does it.
use Rattle.std.specs.Prelude.{ℕ, ◌≤◌, ◌<◌, ◌≡◌, List, ◌++◌, length, drop}
use Rattle.model.specs.ConfigFile.{load}
use Rattle.model.specs.Written.{Length, Short}
use Rattle.model.specs.Rewriting.{coded}

-- document 02, N1, 'a loaded file is written as the bytes it came from': what `gate_rewrite` promises of an accepted
-- file, in the number that it answers and the area that it leaves. Where the area is long enough the file's own bytes
-- stand at its start, and the rest is as it was; else the number has the file's length, and the area is as it was
abbrev pub RewrittenSame : List ℕ → List ℕ → ℕ → List ℕ → Type 0
RewrittenSame file before r after =
    (load file).answer ≡ 0
    → (length file ≤ length before → (r ≡ coded (Length (length file))) × (after ≡ file ++ drop (length file) before))
    × (length before < length file → (r ≡ coded (Short (length file))) × (after ≡ before))

-- document 02, N1, the same of the program: for an accepted file there is nothing to print and the text's area is as it
-- was; to write are as many bytes as the file has, which are the file's own, and the rest is as it was
abbrev pub SavedSame : List ℕ → List ℕ → List ℕ → ℕ → List ℕ → ℕ → List ℕ → Type 0
SavedSame file text before printed text' written after =
    (load file).answer ≡ 0
    → (printed ≡ 0) × (text' ≡ text) × (written ≡ length file) × (after ≡ file ++ drop (length file) before)
