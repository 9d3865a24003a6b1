-- `state::area::Area::status` meets its contract: the byte of a partition, or 0. Assumes nothing.
use Rattle.state.proofs.Places.{status_in, status_out}
use Rattle.state.proofs.area.Area.status.Goals as goal

pub returns-then-p-lt-PARTITIONS : goal.returns-then-p-lt-PARTITIONS
returns-then-p-lt-PARTITIONS c = search status_in

pub returns-else-p-lt-PARTITIONS : goal.returns-else-p-lt-PARTITIONS
returns-else-p-lt-PARTITIONS c = search status_out
