-- `state::area::Area::object` meets its contract: the first byte of an object's record, or 0. Assumes nothing.
use mathlib.Core.Path.{◌∙◌}
use Rattle.state.proofs.Places.{object_shown}
use Rattle.state.proofs.area.Area.object.Goals as goal

pub returns : goal.returns
returns c = c.byte.ensures ∙ object_shown _ _ _
