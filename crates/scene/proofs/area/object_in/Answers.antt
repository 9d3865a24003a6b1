-- `scene::area::object_in` meets its contract: the byte read is the one that the view has. Assumes nothing.
use mathlib.Core.Path.{sym}
use Rattle.model.proofs.StateBytes.{object_byte}
use Rattle.scene.proofs.area.object_in.Goals as goal

pub returns : goal.returns
returns c =
    sym (object_byte c.args.area.now.room c.args.area.now.bytes.now c.args.o c.requires.low c.requires.high)
