-- `scene::rules::is_reading` meets its contract: of the three modes one does not read. Assumes nothing.
use Rattle.scene.proofs.Ranges.{mode-reads}
use Rattle.scene.proofs.rules.is_reading.Goals as goal

pub returns : goal.returns
returns c = mode-reads c.args.mode c.requires
