-- `closure::fine::parts` meets its contract: only devices below c are in, each in its partition. Assumes nothing.
use lib.ListN.{length}
use mathlib.Core.Path.{◌≡◌}
use Rattle.state.specs.Shown.{shown}
use Rattle.closure.specs.Search.{Parts}
use Rattle.closure.proofs.fine.parts.Given as goal

abbrev pub invariant-loop-c : goal.invariant-loop-c
invariant-loop-c l = (length l.t ≡ 256) × Parts (shown l.area) l.c l.t
