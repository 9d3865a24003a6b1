-- `green::staying::spared_values` meets its contract: the values so far are looked through. Assumes nothing.
use Prim.Native.Nat.{ℕ, ◌<◌, suc}
use mathlib.Core.Path.{◌≡◌}
use mathlib.Core.Bool.{false}
use lib.ListN.{length, get_or}
use Rattle.model.specs.Base.{all}
use Rattle.model.specs.Config.{most_values, entries}
use Rattle.green.specs.Rule.{spared_by}
use Rattle.green.proofs.staying.spared_values.Given as goal

abbrev pub invariant-loop-v : goal.invariant-loop-v
invariant-loop-v l =
    (length l.spares ≡ suc most_values)
    × ((w : ℕ) → w < l.v → get_or l.spares w false ≡ all (spared_by l.table) (entries l.config w))
