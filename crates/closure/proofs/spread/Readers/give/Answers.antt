-- `closure::spread::Readers::give` meets its contract: the devices are in the word already, or it is set and marked.
-- Assumes nothing.
use native.Mathlib.Omega.{arith}
use Rattle.closure.proofs.Giving.{gave_none, gave_one}
use Rattle.closure.proofs.spread.Readers.give.Goals as goal

pub returns-then-new-old : goal.returns-then-new-old
returns-then-new-old c = gave_none c.args.self.now c.args.v c.args.r c.if-new-old.true

pub returns : goal.returns
returns c = gave_one c.args.self.now c.args.v c.args.r c.power.result (omega arith) c.power.ensures
