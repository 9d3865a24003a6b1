-- `scene::area::held_by` meets its contract: the byte read is the first of the contents that the view has. Assumes
-- nothing.
use mathlib.Core.Path.{sym}
use Rattle.scene.proofs.Ranges.{held_byte}
use Rattle.scene.proofs.area.held_by.Goals as goal

pub returns : goal.returns
returns c =
    sym (held_byte c.args.area.now.room c.args.area.now.bytes.now c.args.o c.requires)
