-- `state::change::set_status` meets its contract: a store of one byte, or none. Assumes nothing.
use Rattle.state.proofs.Places.{status-stored, status-kept}
use Rattle.state.proofs.change.set_status.Goals as goal

pub returns-then-p-lt-PARTITIONS : goal.returns-then-p-lt-PARTITIONS
returns-then-p-lt-PARTITIONS c = search status-stored

pub returns-else-p-lt-PARTITIONS : goal.returns-else-p-lt-PARTITIONS
returns-else-p-lt-PARTITIONS c = search status-kept
