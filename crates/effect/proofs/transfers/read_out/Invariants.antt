-- `effect::transfers::read_out` meets its contract: the contents of the first i sources are in the answer area.
-- Assumes nothing.
use Prim.Native.Nat.{◌*◌}
use mathlib.Core.Path.{◌≡◌}
use mathlib.Core.List.{◌++◌}
use lib.ListN.{drop}
use Rattle.model.specs.State.{content_bytes}
use Rattle.state.specs.Shown.{shown}
use Rattle.effect.specs.Transfers.{sources}
use Rattle.effect.proofs.transfers.read_out.Given as goal

abbrev pub invariant-loop-i : goal.invariant-loop-i
invariant-loop-i l = l.answer ≡ sources l.op (shown l.area) l.i ++ drop (content_bytes * l.i) l.initial.answer
