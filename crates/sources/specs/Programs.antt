-- Demand 3, said of the programs: what the contracts of the calls, as `gate_fresh` and `gate_operate`, promise of a
-- source, a list of calls of them, and what then holds of the numbers they answered and the areas they left.
use Rattle.std.specs.Prelude.{ℕ, ◌≡◌, List, [], ◌∷◌}
use Rattle.model.specs.State.{State, layout}
use Rattle.sources.specs.Gate.{Source, config_of, fresh_on, operate_on}
use Rattle.model.specs.Trace.{Transfer, Traces}
use Rattle.sources.specs.Separation.{initial}
use Rattle.model.specs.Separation.{state_after, EachCall, Hardcoded, Contained}
use Rattle.model.specs.Programs.{Step, bytes_of, numbers_of, area_left}

-- what a call for a fresh state promises of the number it answers and the state area it leaves
abbrev pub Made : Source → List ℕ → ℕ → List ℕ → Type 0
Made source before r after = (r ≡ (fresh_on source before).0) × (after ≡ (fresh_on source before).1)

-- what an operation call promises of the number it answers, the state area and the answer area it leaves
abbrev pub Operated : Source → List ℕ → List ℕ → List ℕ → ℕ → List ℕ → List ℕ → Type 0
Operated source area bytes answer r area' answer' =
    (r ≡ (operate_on source area bytes answer).0) × (area' ≡ (operate_on source area bytes answer).1)
    × (answer' ≡ (operate_on source area bytes answer).2)

-- a list of calls, each given the area that the last one left
abbrev pub Ran : Source → List ℕ → List Step → Type 0
Ran source area [] = Unit {0}
Ran source area (c ∷ cs) =
    Operated source area c.bytes c.answer c.number c.area c.left × Ran source c.area cs

-- the plain book after the list, fed the configuration, the operations and the answers
abbrev pub book : Source → List Step → State
book source cs = state_after (config_of source) (initial source) (bytes_of cs) (numbers_of cs)

-- demand 3 of the calls that were made
pub record Kept (source : Source) (area : List ℕ) (cs : List Step) : Type 0 where
  -- the area that the last call left equals the plain book byte for byte
  pub same : area_left area cs ≡ layout (book source cs)
  -- what came into a partition was cleared by the call that moved it, and hardcoded descriptors hold the file's value
  pub each : EachCall (config_of source) (initial source) (bytes_of cs) (numbers_of cs)
  pub hardcoded : Hardcoded (config_of source) (initial source)
  -- every trace from there stays within its devices' partitions and off hardcoded descriptors
  pub contained : (trace : List Transfer) → Traces (config_of source) (book source cs) trace
      → Contained (config_of source) (book source cs) trace

-- whatever area was given for a fresh state, if it was answered 0, and whatever list of calls followed
abbrev pub PromiseOn : Source → Type 0
PromiseOn source =
    (before area : List ℕ) → Made source before 0 area → (cs : List Step) → Ran source area cs → Kept source area cs
