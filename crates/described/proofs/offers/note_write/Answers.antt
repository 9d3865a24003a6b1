-- `described::offers::note_write` meets its contract: the entry does not write, or its
-- stored value's digit is put. Assumes nothing.
use mathlib.Core.Path.{◌∙◌, sym}
use Rattle.described.proofs.Offering.{put_none, put_if, put_same}
use Rattle.described.proofs.offers.note_write.Goals as goal

pub returns-then-is_writing : goal.returns-then-is_writing
returns-then-is_writing c =
    put_if _ _ (sym c.is_writing.ensures ∙ c.if-is_writing.true)
    (put_same c.from.ensures c.from-w.ensures c.put.ensures)

pub returns-else-is_writing : goal.returns-else-is_writing
returns-else-is_writing c = put_none _ _ (sym c.is_writing.ensures ∙ c.if-is_writing.false)
