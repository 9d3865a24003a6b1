-- `scene::area::device_in` meets its contract: the byte read is the one that the view has. Assumes nothing.
use mathlib.Core.Path.{sym}
use Rattle.model.proofs.StateBytes.{device_byte}
use Rattle.scene.proofs.area.device_in.Goals as goal

pub returns : goal.returns
returns c =
    sym (device_byte c.args.area.now.room c.args.area.now.bytes.now c.args.c c.requires.low c.requires.high)
