-- `described::today::offered` meets its contract: what is seen is read, and what is not to be done is followed and put
-- down. Assumes nothing.
use Prim.Native.Nat.{◌<◌, ◌+◌, ◌-◌, ◌*◌, ◌^◌}
use Rattle.state.specs.Shown.{shown}
use Rattle.described.specs.Today.{today}
use Rattle.described.proofs.Describing.{Seeing}
use Rattle.described.proofs.Offering.{Noting}
use Rattle.described.proofs.today.offered.Given as goal

abbrev pub invariant-loop-todo : goal.invariant-loop-todo
invariant-loop-todo l =
    record {
      small : l.seen < 2 ^ 64;
      seeing : Seeing (today l.config (shown l.area)) l.device l.seen l.todo;
      noting : Noting (today l.config (shown l.area)) l.seen l.todo l.t;
    }

abbrev pub decreases-loop-todo : goal.decreases-loop-todo
decreases-loop-todo l =
    (2 ^ 64 - l.seen) * 2 ^ 64 + l.todo
