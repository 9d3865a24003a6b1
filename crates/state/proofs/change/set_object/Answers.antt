-- `state::change::set_object` meets its contract: a store of one byte, or none. Assumes nothing.
use mathlib.Core.Path.{◌∙◌}
use Rattle.state.proofs.Places.{object_changed}
use Rattle.state.proofs.change.set_object.Goals as goal

pub returns : goal.returns
returns c = c.set_byte.ensures ∙ object_changed _ _ c.requires _ _
