-- Document 02, N2 and N6: areas that the gate of before left, carried over to today's.
use Rattle.std.specs.Prelude.{ℕ, ◌≡◌, List, [], ◌∷◌, Bool, true, not, cond, ◌&&◌, length, leb, eqb}
use Rattle.model.specs.Base.{all}
use Rattle.model.specs.State.{State, device_in, lock_of, records, view, layout, well_formed}
use Rattle.model.specs.Closure.{Reads, confined}
use Rattle.model.specs.ConfigFile.{load}
use Rattle.model.specs.Operation.{read_operation}
use Rattle.sources.specs.Gate.{Source, config_of, file_source, fresh_on}
use Rattle.model.specs.Trace.{Transfer, Traces}
use Rattle.model.specs.Separation.{Call, state_after, Hardcoded, EachCall, Contained, operations_of}
use Rattle.sources.specs.Separation.{answers_of, area_after}
use Rattle.model.specs.Green.{Green, PassesSearch}
use Rattle.model.specs.Locks.{KeptOut}
use Rattle.model.specs.declared.Family.TheVariants.{Write, Copy}
use Rattle.model.specs.declared.Config.{Config}
use Rattle.model.specs.declared.Operation.{Operation}
use Rattle.continuity.specs.Past.{
  Past,
  load_in,
  reading_in,
  length_in,
  view_in,
  formed_in,
  fresh_in,
  answers_in,
  area_in,
  carried,
  readable,
  answers_read,
}

-- the state that an area shows, and the plain book that goes on from it with a list of calls
abbrev pub shown : Source → List ℕ → State
shown source s = view source.room s

abbrev pub later : Source → List ℕ → List Call → State
later source s calls =
    state_after (config_of source) (shown source s) (operations_of calls) (answers_of source s calls)

-- document 02, N6: what holds of a device that is locked after a list of calls from an area
pub record LockedFrom (source : Source) (s : List ℕ) (calls : List Call) (c : ℕ) : Type 0 where
  pub outside : device_in (later source s calls) c ≡ 0
  pub no_entry : (o v : ℕ) → Reads (config_of source) true (later source s calls) c o v → ⊥
  pub since : (more : List Call) → KeptOut (config_of source) (later source s calls) c (operations_of more)
      (answers_of source (area_after source s calls) more)

-- demand 3 and what document 02 adds to it, of a list of calls from an area: what is promised of areas that today's
-- calls led to from a fresh state
pub record Promised (source : Source) (s : List ℕ) (calls : List Call) : Type 0 where
  -- `separation`: the area equals the plain book, what came in was cleared, hardcoded descriptors stay, traces are
  -- contained
  pub same : area_after source s calls ≡ layout (later source s calls)
  pub each : EachCall (config_of source) (shown source s) (operations_of calls) (answers_of source s calls)
  pub hardcoded : Hardcoded (config_of source) (shown source s)
  pub contained : (trace : List Transfer) → Traces (config_of source) (later source s calls) trace
      → Contained (config_of source) (later source s calls) trace
  -- `reached_formed`, `reached_green`
  pub formed : well_formed source.room (config_of source) (later source s calls) ≡ true
  pub greens : Green (config_of source) (later source s calls)
  pub clean : confined (config_of source) (later source s calls) ≡ true
  -- `green-passes`
  pub passes : (op : Operation) → PassesSearch (config_of source) (later source s calls) op Write
      × PassesSearch (config_of source) (later source s calls) op Copy
  -- `locked_out`
  pub locked : (c : ℕ) → lock_of (later source s calls) c ≡ 1 → LockedFrom source s calls c

-- what a gate of before did, today's gate does: from the area in which the older gate made a fresh state, carried over,
-- today's makes its fresh state, answers every operation that the older gate could read as that did, and leaves the
-- older area, carried over. Operations that the older gate could not read it refused; they are not put to today's
abbrev pub OlderCalls : Past → Type 0
OlderCalls past =
    (file area : List ℕ) → (fresh_in past file area).0 ≡ 0 → (calls : List Call)
    → ((fresh_on (file_source file) (carried past area)).0 ≡ 0)
    × (area_after (file_source file) (fresh_on (file_source file) (carried past area)).1 (readable past calls)
    ≡ carried past (area_in past file (fresh_in past file area).1 calls))
    × (answers_of (file_source file) (fresh_on (file_source file) (carried past area)).1 (readable past calls)
    ≡ answers_read past calls (answers_in past file (fresh_in past file area).1 calls))

-- an operation that the older gate could not read and today's can; where its code is one of before, it has a number
-- that was too large
abbrev pub newly : Past → List ℕ → Bool
newly past bytes = not (eqb (reading_in past bytes).0 0) && eqb (read_operation bytes).0 0

abbrev pub old_codes : Past → List Call → Bool
old_codes past calls = all (λ c. leb (read_operation c.bytes).1.code past.code) calls

-- what today's gate answers where the older one answered n
abbrev pub answer_now : Past → Call → ℕ → ℕ
answer_now past c n = cond (newly past c.bytes && eqb n 10) 11 n

abbrev pub answers_now : Past → List Call → List ℕ → List ℕ
answers_now past [] ns = []
answers_now past (c ∷ cs) [] = []
answers_now past (c ∷ cs) (n ∷ ns) = answer_now past c n ∷ answers_now past cs ns

-- the same list of calls, whatever is in it but operations of codes that there were not: today's gate leaves the older
-- area, carried over, and answers as the older one did, but 11 in place of 10 where a number was too large
abbrev pub SameCalls : Past → Type 0
SameCalls past =
    (file area : List ℕ) → (fresh_in past file area).0 ≡ 0 → (calls : List Call) → old_codes past calls ≡ true
    → (area_after (file_source file) (fresh_on (file_source file) (carried past area)).1 calls
    ≡ carried past (area_in past file (fresh_in past file area).1 calls))
    × (answers_of (file_source file) (fresh_on (file_source file) (carried past area)).1 calls
    ≡ answers_now past calls (answers_in past file (fresh_in past file area).1 calls))

-- so whatever calls the older gate was given from a fresh state, what is promised today is promised of every list of
-- calls from the area that it left, carried over
abbrev pub CarriedOver : Past → Type 0
CarriedOver past =
    (file area : List ℕ) → (fresh_in past file area).0 ≡ 0 → (calls more : List Call)
    → Promised (file_source file) (carried past (area_in past file (fresh_in past file area).1 calls)) more

-- a file that was accepted is accepted with the same configuration
abbrev pub OlderFiles : Past → Type 0
OlderFiles past = (file : List ℕ) → (load_in past file).answer ≡ 0 → load file ≡ load_in past file

-- any area that was well formed, carried over, shows the same state and is well formed
abbrev pub OlderAreas : Past → Type 0
OlderAreas past =
    (config : Config) (s : List ℕ) → length s ≡ length_in past (records config)
    → formed_in past (records config) config (view_in past (records config) s) ≡ true
    → (view (records config) (carried past s) ≡ view_in past (records config) s)
    × (well_formed (records config) config (view (records config) (carried past s)) ≡ true)

-- all of it, of a gate of before
abbrev pub GoesOn : Past → Type 0
GoesOn past = OlderFiles past × OlderAreas past × OlderCalls past × SameCalls past × CarriedOver past
