-- Document 02, N5: each write or copy that the rule of green zones passes would also pass the search, in every state
-- that operations reach.
use Rattle.std.specs.Prelude.{ℕ, ◌≡◌, List, true}
use Rattle.model.specs.Closure.{confined}
use Rattle.sources.specs.Gate.{Source, config_of, fresh_on}
use Rattle.model.specs.Separation.{Call}
use Rattle.sources.specs.Separation.{final}
use Rattle.model.specs.declared.Family.TheVariants.{Write, Copy}
use Rattle.model.specs.declared.Operation.{Operation}
use Rattle.model.specs.Green.{Green, PassesSearch}

-- document 02, N5, there: so it is, and no entry crosses, whatever calls came since the fresh state
abbrev pub ReachedGreenOn : Source → Type 0
ReachedGreenOn source =
    (area : List ℕ) → (fresh_on source area).0 ≡ 0 → (calls : List Call)
    → Green (config_of source) (final source (fresh_on source area).1 calls)
    × (confined (config_of source) (final source (fresh_on source area).1 calls) ≡ true)

-- document 02, N5: for every area in which making a fresh state answers 0, every list of calls from there, and every
-- write and copy after it
abbrev pub GreenPassesOn : Source → Type 0
GreenPassesOn source =
    (area : List ℕ) → (fresh_on source area).0 ≡ 0 → (calls : List Call) (op : Operation)
    → PassesSearch (config_of source) (final source (fresh_on source area).1 calls) op Write
    × PassesSearch (config_of source) (final source (fresh_on source area).1 calls) op Copy
