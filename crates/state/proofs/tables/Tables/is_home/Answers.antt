-- `state::tables::Tables::is_home` meets its contract: a law for each way out. Assumes nothing.
use Rattle.state.proofs.Records.{home_not, home_known, home_told}
use Rattle.state.proofs.tables.Tables.is_home.Goals as goal

pub returns-then-self : goal.returns-then-self
returns-then-self c = search home_known

pub returns-else-self : goal.returns-else-self
returns-else-self c = search home_told

pub returns-else-p-home : goal.returns-else-p-home
returns-else-p-home c = search home_not
