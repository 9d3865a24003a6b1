-- `report::rows::put_rows` meets its contract: the rows of what is left of the session complete the whole. Assumes
-- nothing.
use lib.ListN.{length}
use Prim.Native.Nat.{◌≤◌, ◌+◌}
use Rattle.report.proofs.Sessions.{Onward}
use Rattle.report.proofs.rows.put_rows.Given as goal

abbrev pub invariant-loop-rest : goal.invariant-loop-rest
invariant-loop-rest l =
    (l.place + length l.rest ≤ length l.session) × (l.end ≤ length l.out) × Onward l.line l.session
    l.initial.area l.initial.answer l.initial.out l.area l.answer l.out l.rest l.place l.end

abbrev pub decreases-loop-rest : goal.decreases-loop-rest
decreases-loop-rest l = length l.rest
