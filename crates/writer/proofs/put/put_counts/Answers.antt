-- `writer::put::put_counts` meets its contract: one part after the other. Assumes nothing.
use Rattle.writer.proofs.Putting
use Rattle.writer.proofs.put.put_counts.Goals as goal

pub returns-clause-placed : goal.returns-clause-placed
returns-clause-placed c = search Putting.counts_placed
