-- `writer::ranges::values_right` meets its contract: each value is tested. Assumes nothing.
use mathlib.Core.Path.{refl}
use Rattle.model.proofs.Ranges.{every_from_all}
use Rattle.model.specs.Base.{all}
use Rattle.model.specs.ConfigWrite.{value_rows, right_row}
use borrow.Author.Rules.{rules}
use Rattle.writer.proofs.ranges.values_right.Goals as goal

pub returns : goal.returns
returns c =
    let config = c.args.config.now in
    every_from_all _ (λ v. all right_row (value_rows config.counts config.objects.kind config.values v)) _ _ _ refl
    c.all.ensures.ran (λ x b q h. search rules)
