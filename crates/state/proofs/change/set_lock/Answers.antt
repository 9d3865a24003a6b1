-- `state::change::set_lock` meets its contract: a store of one byte, or none. Assumes nothing.
use mathlib.Core.Path.{◌∙◌}
use Rattle.state.proofs.Places.{lock_changed}
use Rattle.state.proofs.change.set_lock.Goals as goal

pub returns : goal.returns
returns c = c.set_byte.ensures ∙ lock_changed _ _ c.requires _ _
