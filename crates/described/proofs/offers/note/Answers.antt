-- `described::offers::note` meets its contract: the write and the read of the entry are put down. Assumes nothing.
use Rattle.model.specs.Config.{entry_at}
use Rattle.described.proofs.Offering.{noted_both}
use Rattle.described.proofs.offers.note.Goals as goal

pub returns : goal.returns
returns c =
    noted_both (entry_at c.args.entries.now c.args.at) c.note_write.ensures
    c.note_read.ensures
