-- `closure::spread::Found::find` meets its contract: the pairs of the devices below i are fine. Assumes nothing.
use mathlib.Core.Path.{◌≡◌}
use Prim.Native.Nat.{ℕ, ◌<◌}
use Rattle.scene.specs.Digits.{bit}
use Rattle.scene.specs.Scene.{In}
use Rattle.closure.specs.Search.{PairFine}
use Rattle.closure.proofs.spread.Found.find.Given as goal

abbrev pub invariant-loop-i : goal.invariant-loop-i
invariant-loop-i l =
    (n : ℕ) → n < l.i → bit l.strange.devices n ≡ 1 → (o : ℕ) → In l.config.counts.objects o
    → PairFine l.config l.fine l.self.known n o l.strange.value
