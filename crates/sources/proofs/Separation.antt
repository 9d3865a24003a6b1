-- Demand 3: the theorem about a whole list of calls and the trace after it.
use Rattle.sources.specs.Gate.{Source, config_of, fresh_on}
use Rattle.sources.specs.Separation.{initial, DemandOn}
use Rattle.sources.proofs.Sources.{Fits}
use Rattle.sources.proofs.Calls.{fresh_kept, calls_hold, fresh_zero}
use Rattle.sources.proofs.TraceLaws.{trace_contained}

-- the theorem: for every list of calls from a fresh state, whatever was loaded
pub separation_on : (source : Source) → Fits source → DemandOn source
separation_on source fits area h calls =
    let q = fresh_zero source area h in
    let k = fresh_kept source.room (config_of source) (fits.roomy q.0) in
    let r = calls_hold source fits q.0 calls (initial source) k (fresh_on source area).1 q.1 in
    record {
      same = r.same;
      each = r.each;
      hardcoded = k.hardcoded;
      contained = λ trace rs. trace_contained (config_of source) trace _ r.end rs;
    }
