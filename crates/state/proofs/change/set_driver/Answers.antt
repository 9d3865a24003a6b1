-- `state::change::set_driver` meets its contract: a store of one byte, or none. Assumes nothing.
use mathlib.Core.Path.{◌∙◌}
use Rattle.state.proofs.Places.{driver_changed}
use Rattle.state.proofs.change.set_driver.Goals as goal

pub returns : goal.returns
returns c = c.set_byte.ensures ∙ driver_changed _ _ c.requires _ _
