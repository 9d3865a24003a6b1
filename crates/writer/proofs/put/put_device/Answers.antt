-- `writer::put::put_device` meets its contract: the value number, then the serial. Assumes nothing.
use Rattle.writer.proofs.Putting
use Rattle.writer.proofs.put.put_device.Goals as goal

pub returns-then-edition-lt-SERIAL_EDITION : goal.returns-then-edition-lt-SERIAL_EDITION
returns-then-edition-lt-SERIAL_EDITION c = let (f0, f1) = Putting.device_plain _ _ _ _ _
    c.put_number-p.ensures.placed c.if-edition-lt-SERIAL_EDITION.true in record { placed = f0; upper_bound = f1 }

pub encode-requires-clause-v_le_most_number : goal.encode-requires-clause-v_le_most_number
encode-requires-clause-v_le_most_number c = c.requires.serial_le_most_serial c.if-edition-lt-SERIAL_EDITION.false

pub returns : goal.returns
returns c = let (f0, f1) = Putting.device_serial _ _ _ _ _ c.put_number-p.ensures.placed
    c.if-edition-lt-SERIAL_EDITION.false c.encode.ensures in record { placed = f0; upper_bound = f1 }
