-- Demand 3 holds of the programs: their contracts make each list of calls one that `separation` speaks of.
use Prim.Native.Nat.{ℕ}
use mathlib.Core.Path.{◌≡◌, refl, sym, ap, ◌∙◌, subst}
use mathlib.Core.List.{List, [], ◌∷◌}
use Rattle.model.specs.State.{State, layout}
use Rattle.sources.specs.Gate.{Source, config_of}
use Rattle.model.specs.Separation.{Call, EachCall, Contained, state_after, operations_of}
use Rattle.sources.specs.Separation.{Separated, answers_of, area_after, initial, final}
use Rattle.model.specs.Programs.{Step, bytes_of, numbers_of, area_left}
use Rattle.sources.specs.Programs.{Ran, book, Kept, PromiseOn}
use Rattle.model.specs.Trace.{Transfer, Traces}
use Rattle.sources.proofs.Sources.{Fits}
use Rattle.sources.proofs.Separation.{separation_on}

-- the calls, as demand 3 has them
abbrev calls : List Step → List Call
calls [] = []
calls (c ∷ cs) = record { bytes = c.bytes; answer = c.answer } ∷ calls cs

operations : (cs : List Step) → operations_of (calls cs) ≡ bytes_of cs
operations [] = refl
operations (c ∷ cs) = ap (λ (bs : List (List ℕ)). c.bytes ∷ bs) (operations cs)

-- the numbers that were answered are the answers of the list
numbers : (source : Source) (area : List ℕ) (cs : List Step) → Ran source area cs
    → answers_of source area (calls cs) ≡ numbers_of cs
numbers source area [] h = refl
numbers source area (c ∷ cs) h =
    rw (← h.0.0, ← h.0.1) (ap (λ (ns : List ℕ). c.number ∷ ns) (numbers source c.area cs h.1))

-- the area that was left is the area after the list
left : (source : Source) (area : List ℕ) (cs : List Step) → Ran source area cs
    → area_after source area (calls cs) ≡ area_left area cs
left source area [] h = refl
left source area (c ∷ cs) h =
    sym (ap (λ (a : List ℕ). area_after source a (calls cs)) h.0.1) ∙ left source c.area cs h.1

-- what holds of the list's answers holds of the numbers that were answered
kept : (source : Source) (area : List ℕ) (cs : List Step) → Ran source area cs → Separated source area (calls cs)
    → Kept source area cs
kept source area cs ran s =
    let config = config_of source in
    let b : final source area (calls cs) ≡ book source cs =
    ap (λ (ts : List (List ℕ)). state_after config (initial source) ts (answers_of source area (calls cs)))
    (operations cs)
    ∙ ap (state_after config (initial source) (bytes_of cs)) (numbers source area cs ran) in
    record {
      same = sym (left source area cs ran) ∙ s.same ∙ ap layout b;
      each =
          subst (EachCall config (initial source) (bytes_of cs)) (numbers source area cs ran)
          (subst (λ (ts : List (List ℕ)). EachCall config (initial source) ts (answers_of source area (calls cs)))
          (operations cs) s.each);
      hardcoded = s.hardcoded;
      contained =
          subst
          (λ (b : State). (trace : List Transfer) → Traces config b trace → Contained config b trace) b s.contained;
    }

-- the theorem: for every list of calls of the programs, whatever was loaded
pub programs_on : (source : Source) → Fits source → PromiseOn source
programs_on source fits before area made cs ran =
    kept source area cs ran
    (subst (λ (a : List ℕ). Separated source a (calls cs)) (sym made.1)
    (separation_on source fits before (sym made.0) (calls cs)))
