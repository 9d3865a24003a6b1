-- `described::today::opened_values` meets its contract: the entries below j are looked at and put down.
-- Assumes nothing.
use Prim.Native.Nat.{◌-◌}
use Rattle.state.specs.Shown.{shown}
use Rattle.described.specs.Today.{OpenedBelow}
use Rattle.described.specs.Offers.{NotedBelow}
use Rattle.described.proofs.today.opened_values.Given as goal

abbrev pub invariant-loop-j : goal.invariant-loop-j
invariant-loop-j l =
    record {
      opened : OpenedBelow l.config.objects.kind l.config.values.count l.config.values.entries (shown l.area) l.v
          (l.j - 1) l.x;
      noted : NotedBelow l.config.values.count l.config.values.entries l.v (l.j - 1) l.initial.table l.table;
    }
