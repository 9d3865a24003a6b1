-- `scene::words::clear` meets its contract: the one digit differs. Assumes nothing.
use Rattle.scene.proofs.Digits.{cleared_of}
use Rattle.scene.proofs.words.clear.Goals as goal

pub returns : goal.returns
returns c =
    cleared_of c.args.w c.args.k c.power.result c.power.ensures c.requires.k_value
