-- `state::area::Area::is_existing` meets its contract: the status stands. Assumes nothing.
use mathlib.Core.Path.{ap, ◌∙◌}
use Rattle.model.specs.State.{stands}
use Rattle.state.proofs.area.Area.is_existing.Goals as goal

pub returns : goal.returns
returns c = c.is_standing.ensures ∙ ap stands c.status.ensures
