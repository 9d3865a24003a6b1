-- `closure::spread::Found::admit` meets its contract: the devices are there already, or are given to the values.
-- Assumes nothing.
use native.Mathlib.Omega.{arith}
use Rattle.closure.proofs.Giving.{grew_admit, added_old, added_some}
use Rattle.closure.proofs.spread.Found.admit.Goals as goal

pub returns-then-y-x-clause-added : goal.returns-then-y-x-clause-added
returns-then-y-x-clause-added c = added_old c.args.reading c.args.o c.args.r c.args.self.now.known c.if-y-x.true

pub returns-clause-grew : goal.returns-clause-grew
returns-clause-grew c =
    grew_admit c.args.self.now.known c.args.o (omega arith) c.args.r c.requires.low c.spread.ensures

pub returns-clause-added : goal.returns-clause-added
returns-clause-added c =
    added_some c.args.self.now.known c.args.o (omega arith) c.args.reading c.args.r c.if-not-reading.false
