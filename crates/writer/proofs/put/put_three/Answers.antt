-- `writer::put::put_three` meets its contract: one part after the other. Assumes nothing.
use Rattle.writer.proofs.Putting
use Rattle.writer.proofs.put.put_three.Goals as goal

pub returns-clause-placed : goal.returns-clause-placed
returns-clause-placed c = search Putting.three_placed
