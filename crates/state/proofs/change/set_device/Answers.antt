-- `state::change::set_device` meets its contract: a store of one byte, or none. Assumes nothing.
use mathlib.Core.Path.{◌∙◌}
use Rattle.state.proofs.Places.{device_changed}
use Rattle.state.proofs.change.set_device.Goals as goal

pub returns : goal.returns
returns c = c.set_byte.ensures ∙ device_changed _ _ c.requires _ _
