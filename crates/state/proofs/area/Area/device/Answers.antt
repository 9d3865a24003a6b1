-- `state::area::Area::device` meets its contract: the byte of a device, or 0. Assumes nothing.
use mathlib.Core.Path.{◌∙◌}
use Rattle.state.proofs.Places.{device_shown}
use Rattle.state.proofs.area.Area.device.Goals as goal

pub returns : goal.returns
returns c = c.byte.ensures ∙ device_shown _ _ _
