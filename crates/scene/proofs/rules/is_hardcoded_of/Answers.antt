-- `scene::rules::is_hardcoded_of` meets its contract: the bytes are those that `owned` names. Assumes nothing.

use Rattle.scene.proofs.rules.is_hardcoded_of.Goals as goal

pub returns : goal.returns
unfolding Rattle.scene.specs.Rules.owned
returns c = rw (c.device_in-active.ensures, c.from.ensures)
