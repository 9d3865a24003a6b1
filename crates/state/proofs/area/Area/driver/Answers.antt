-- `state::area::Area::driver` meets its contract: the byte of a driver, or 0. Assumes nothing.
use mathlib.Core.Path.{◌∙◌}
use Rattle.state.proofs.Places.{driver_shown}
use Rattle.state.proofs.area.Area.driver.Goals as goal

pub returns : goal.returns
returns c = c.byte.ensures ∙ driver_shown _ _ _
