-- `green::staying::spared_values` meets its contract: the values so far are looked through. Assumes nothing.
use mathlib.Core.Path.{◌≡◌, refl}
use native.Mathlib.Omega.{arith}
use Rattle.model.specs.Config.{entries}
use Rattle.green.specs.Rule.{Spares}
use Rattle.green.proofs.staying.spared_values.Goals as goal

pub loop-v-init : goal.loop-v-init
unfolding entries
loop-v-init c = (refl, λ w h. let z : w ≡ 0 = omega arith in rw z)

pub returns : goal.returns
unfolding Spares
returns c = λ v h. c.loop-v.invariant.1 v (omega arith)
