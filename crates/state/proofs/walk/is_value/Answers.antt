-- `state::walk::is_value` meets its contract: sixteen bytes as one number. Assumes nothing.
use Rattle.state.proofs.Words.{sixteen-value}
use Rattle.state.proofs.walk.is_value.Goals as goal

pub returns : goal.returns
returns c = search sixteen-value
