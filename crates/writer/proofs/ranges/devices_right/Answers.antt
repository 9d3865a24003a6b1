-- `writer::ranges::devices_right` meets its contract: each device is tested. Assumes nothing.
use mathlib.Core.Path.{refl, ◌∙◌}
use Rattle.model.proofs.Ranges.{every_from_all}
use mathlib.Core.Bool.{◌&&◌}
use lib.Dec.{leb}
use Rattle.model.specs.Config.{hardcoded_of, serial_of}
use Rattle.writer.proofs.Testing
use borrow.Author.Rules.{rules}
use Rattle.writer.proofs.ranges.devices_right.Goals as goal

pub returns : goal.returns
returns c =
    let config = c.args.config.now in
    every_from_all _
    (λ d. leb (hardcoded_of config d) config.counts.values && leb (serial_of config d) c.most_serial-top.result) _ _ _
    refl c.all.ensures.ran (λ x b q h. search rules)
    ∙ Testing.devices-same config _ c.most_serial-top.ensures
