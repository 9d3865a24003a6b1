-- Document 01, 'Lists of calls, and runs': demand 3, a single claim about a whole list of calls from a fresh state, the
-- plain book beside it, and the trace after it.
use Rattle.std.specs.Prelude.{ℕ, ◌≡◌, List, [], ◌∷◌}
use Rattle.model.specs.State.{State, layout, fresh}
use Rattle.sources.specs.Gate.{Source, config_of, fresh_on, operate_on}
use Rattle.model.specs.Trace.{Transfer, Traces}
use Rattle.model.specs.Separation.{Call, state_after, Hardcoded, EachCall, Contained, operations_of}

-- document 01, 'Lists of calls, and runs': the answers of a list of calls, each given the area that the last one left
abbrev pub answers_of : Source → List ℕ → List Call → List ℕ
answers_of source area [] = []
answers_of source area (c ∷ cs) =
    (operate_on source area c.bytes c.answer).0
    ∷ answers_of source (operate_on source area c.bytes c.answer).1 cs

-- document 01, 'Lists of calls, and runs': the area after the list
abbrev pub area_after : Source → List ℕ → List Call → List ℕ
area_after source area [] = area
area_after source area (c ∷ cs) = area_after source (operate_on source area c.bytes c.answer).1 cs

-- document 01, 'Lists of calls, and runs': the plain book before the first call, and after the last
abbrev pub initial : Source → State
initial source = fresh source.room (config_of source)

abbrev pub final : Source → List ℕ → List Call → State
final source area calls =
    state_after (config_of source) (initial source) (operations_of calls) (answers_of source area calls)

-- document 01, 'Lists of calls, and runs': what holds after a list of calls
pub record Separated (source : Source) (area : List ℕ) (calls : List Call) : Type 0 where
  -- the area after the list equals the plain book byte for byte
  pub same : area_after source area calls ≡ layout (final source area calls)
  -- what came into a partition was cleared, and hardcoded descriptors hold the file's value
  pub each : EachCall (config_of source) (initial source) (operations_of calls) (answers_of source area calls)
  pub hardcoded : Hardcoded (config_of source) (initial source)
  -- every trace from there stays within its devices' partitions
  pub contained : (trace : List Transfer) → Traces (config_of source) (final source area calls) trace
      → Contained (config_of source) (final source area calls) trace

-- demand 3 of a source: for every area that making a fresh state left with answer 0, and every list of calls from there
abbrev pub DemandOn : Source → Type 0
DemandOn source =
    (area : List ℕ) → (fresh_on source area).0 ≡ 0 → (calls : List Call)
    → Separated source (fresh_on source area).1 calls
