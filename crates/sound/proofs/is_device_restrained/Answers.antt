-- `sound::is_device_restrained` meets its contract: the device's hardcoded value, entry by entry. Assumes nothing.
use Rattle.model.specs.ConfigFile.{own_entry}
use Rattle.sound.specs.Sound.{device_restrained}
use borrow.Author.Rules.{rules}
use Rattle.sound.proofs.is_device_restrained.Goals as goal

pub returns : goal.returns
unfolding device_restrained
returns c = c.entries_all.ensures (own_entry c.args.config.now c.args.device) (λ at r l h. search rules)
