-- `closure::spread::Readers::seed` meets its contract: there is no device, or those that there are are given. Assumes
-- nothing.
use Rattle.closure.proofs.Giving.{gave_nobody}
use Rattle.closure.proofs.spread.Readers.seed.Goals as goal

pub returns-then-r-eq0 : goal.returns-then-r-eq0
returns-then-r-eq0 c = gave_nobody _ _ c.args.self.now c.if-r-eq0.true
