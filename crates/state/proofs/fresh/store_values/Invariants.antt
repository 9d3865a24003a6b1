-- `state::fresh::store_values` meets its contract: the hardcoded values that were passed stand, and records of absent
-- objects hold none. Assumes nothing.
use mathlib.Core.Path.{◌≡◌}
use Rattle.model.specs.State.{view}
use Rattle.state.proofs.Turns.{fresh_to}
use Rattle.state.proofs.fresh.store_values.Given as goal

abbrev pub invariant-loop-before : goal.invariant-loop-before
invariant-loop-before l = view l.room l.area ≡ fresh_to l.config l.room l.before
