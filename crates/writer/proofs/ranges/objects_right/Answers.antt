-- `writer::ranges::objects_right` meets its contract: each object is tested. Assumes nothing.
use mathlib.Core.Path.{refl, ◌∙◌}
use Rattle.model.proofs.Ranges.{every_from_all}
use Rattle.model.specs.ConfigFile.{object_row}
use Rattle.model.specs.ConfigWrite.{object_numbers, in_row}
use Rattle.writer.proofs.Testing
use borrow.Author.Rules.{rules}
use Rattle.writer.proofs.ranges.objects_right.Goals as goal

pub returns : goal.returns
returns c =
    let config = c.args.config.now in
    every_from_all _ (λ o. in_row (object_row config.counts) (object_numbers config.objects o)) _ _ _ refl
    c.all.ensures.ran (λ x b q h. search rules)
    ∙ Testing.objects-same config
