-- `scene::words::power` meets its contract: nothing is shifted out. Assumes nothing.
use Rattle.scene.proofs.Digits.{shl_one}
use Rattle.scene.proofs.words.power.Goals as goal

pub returns : goal.returns
returns c = shl_one c.args.k c.requires
