-- `closure::spread::Readers::spread` meets its contract: the values that are not in q were given the devices. Assumes
-- nothing.
use Prim.Native.Nat.{◌<◌, ◌^◌}
use Rattle.scene.specs.Scene.{value_slots}
use Rattle.closure.proofs.Giving.{Giving}
use Rattle.closure.proofs.spread.Readers.spread.Given as goal

abbrev pub invariant-loop-q : goal.invariant-loop-q
invariant-loop-q l = (l.q < 2 ^ value_slots) × Giving l.x l.q l.r l.initial.self l.self

abbrev pub decreases-loop-q : goal.decreases-loop-q
decreases-loop-q l = l.q
