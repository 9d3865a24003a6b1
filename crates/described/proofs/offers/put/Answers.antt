-- `described::offers::put` meets its contract: the digit is joined to the word. Assumes nothing.
use native.Mathlib.Omega.{arith}
use Rattle.described.proofs.Offering.{put_one}
use Rattle.described.proofs.offers.put.Goals as goal

pub returns : goal.returns
returns c = put_one c.args.table.now c.args.o c.args.k c.power.result (omega arith) c.power.ensures
