-- `operation::codes::read_counted` meets its contract: what is left of the elements gives what all of them give.
-- Assumes nothing.
use mathlib.Core.Path.{◌≡◌}
use Prim.Native.Nat.{◌-◌}
use Rattle.model.specs.Operation.{turns}
use Rattle.operation.specs.Elements.{element}
use Rattle.operation.proofs.codes.read_counted.Given as goal

abbrev pub invariant-loop-i : goal.invariant-loop-i
invariant-loop-i l =
    (l.r.src ≡ l.initial.r.src)
    × (turns (element l.e l.initial.r.src.now) (l.n - l.i) l.i l.r.at l.op
    ≡ turns (element l.e l.initial.r.src.now) l.n 0 l.initial.r.at l.initial.op)
