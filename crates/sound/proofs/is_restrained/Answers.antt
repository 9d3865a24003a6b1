-- `sound::is_restrained` meets its contract: each device is asked. Assumes nothing.
use mathlib.Core.Path.{refl, ◌∙◌}
use Rattle.model.proofs.Ranges.{every_from_all}
use Rattle.sound.specs.Sound.{device_restrained}
use Rattle.sound.proofs.Questions.{restrained-devices}
use borrow.Author.Rules.{rules}
use Rattle.sound.proofs.is_restrained.Goals as goal

pub returns : goal.returns
returns c =
    every_from_all c.args.config.now.counts.devices (device_restrained c.args.config.now) _ _ _ refl c.all.ensures.ran
    (λ x b q h. search rules)
    ∙ restrained-devices _
