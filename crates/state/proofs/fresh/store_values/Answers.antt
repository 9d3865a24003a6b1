-- `state::fresh::store_values` meets its contract: the hardcoded values that were passed stand, and records of absent
-- objects hold none. Assumes nothing.
use mathlib.Core.Path.{ap, ◌∙◌}
use Prim.Native.Nat.{min}
use native.Mathlib.Omega.{arith}
use Rattle.state.proofs.Turns.{fresh_to, zero_length, fresh_none, fresh_on, fresh_end}
use Rattle.state.proofs.fresh.store_values.Goals as goal

pub loop-before-init : goal.loop-before-init
loop-before-init c = search fresh_none

pub store_hardcoded-requires : goal.store_hardcoded-requires
store_hardcoded-requires c = search zero_length

pub loop-before-preserved : goal.loop-before-preserved
loop-before-preserved c =
    fresh_on _ _ _ _ _ _
    (c.loop-before.invariant ∙ ap (fresh_to c.args.config.now c.args.room) (omega arith)) (omega arith)
    (omega (arith, c.loop-before-test.true)) (c.min-present.ensures ∙ ap (min c.args.room) c.from.ensures)
    c.store_hardcoded.ensures
    ∙ ap (fresh_to c.args.config.now c.args.room) (omega arith)

pub returns : goal.returns
returns c =
    fresh_end _ _ _ _ _ _ c.requires c.loop-before.auto.area c.loop-before.invariant
    (c.min-present.ensures ∙ ap (min c.args.room) c.from.ensures) (omega arith) (omega arith)
