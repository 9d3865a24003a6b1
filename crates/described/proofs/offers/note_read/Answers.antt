-- `described::offers::note_read` meets its contract: the entry does not read, or the digit of a
-- read is put. Assumes nothing.
use mathlib.Core.Path.{refl, ◌∙◌, sym}
use Rattle.described.proofs.Offering.{put_none, put_if, put_same}
use Rattle.described.proofs.offers.note_read.Goals as goal

pub returns-then-is_reading : goal.returns-then-is_reading
returns-then-is_reading c =
    put_if _ _ (sym c.is_reading.ensures ∙ c.if-is_reading.true)
    (put_same c.from.ensures refl c.put.ensures)

pub returns-else-is_reading : goal.returns-else-is_reading
returns-else-is_reading c = put_none _ _ (sym c.is_reading.ensures ∙ c.if-is_reading.false)
