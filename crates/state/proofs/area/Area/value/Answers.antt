-- `state::area::Area::value` meets its contract: the first content byte of an object's record, or 0. Assumes nothing.
use mathlib.Core.Path.{◌∙◌}
use Rattle.state.proofs.Places.{value_shown}
use Rattle.state.proofs.area.Area.value.Goals as goal

pub returns : goal.returns
returns c = c.byte.ensures ∙ value_shown _ _ _
