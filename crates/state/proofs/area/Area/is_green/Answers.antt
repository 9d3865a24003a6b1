-- `state::area::Area::is_green` meets its contract: the status is that of a green zone. Assumes nothing.

use Rattle.state.proofs.area.Area.is_green.Goals as goal

pub returns : goal.returns
returns c = rw c.status.ensures
