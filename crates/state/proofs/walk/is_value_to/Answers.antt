-- `state::walk::is_value_to` meets its contract: sixteen bytes as one number. Assumes nothing.
use Rattle.state.proofs.Words.{sixteen-value_to}
use Rattle.state.proofs.walk.is_value_to.Goals as goal

pub returns : goal.returns
returns c = search sixteen-value_to
