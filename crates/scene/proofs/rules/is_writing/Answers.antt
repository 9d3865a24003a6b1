-- `scene::rules::is_writing` meets its contract: of the three modes one does not write. Assumes nothing.
use Rattle.scene.proofs.Ranges.{mode-writes}
use Rattle.scene.proofs.rules.is_writing.Goals as goal

pub returns : goal.returns
returns c = mode-writes c.args.mode c.requires
