-- `writer::put::put_file` meets its contract: counts, objects, devices, values. Assumes nothing.
use Rattle.writer.proofs.Putting
use Rattle.writer.proofs.put.put_file.Goals as goal

pub returns : goal.returns
returns c =
    Putting.file_placed _ _ c.put_counts-a.ensures.placed c.put_objects-b.ensures.placed c.put_devices-c.ensures.placed
    c.put_values.ensures
