-- `state::area::Area::lock` meets its contract: the byte of a device's lock, or 0. Assumes nothing.
use mathlib.Core.Path.{◌∙◌}
use Rattle.state.proofs.Places.{lock_shown}
use Rattle.state.proofs.area.Area.lock.Goals as goal

pub returns : goal.returns
returns c = c.byte.ensures ∙ lock_shown _ _ _
