-- `writer::ranges::entries_right` meets its contract: each entry is tested. Assumes nothing.
use mathlib.Core.Path.{refl, ◌∙◌}
use Rattle.model.proofs.Ranges.{every_from_all}
use Rattle.model.specs.ConfigFile.{entry_row}
use Rattle.model.specs.ConfigWrite.{entry_numbers, in_row}
use Rattle.writer.proofs.Testing
use borrow.Author.Rules.{rules}
use Rattle.writer.proofs.ranges.entries_right.Goals as goal

pub returns : goal.returns
returns c =
    let config = c.args.config.now in
    every_from_all _
    (λ j. in_row (entry_row config.counts config.objects.kind) (entry_numbers config.values c.args.v j)) _ _ _ refl
    c.all.ensures.ran (λ x b q h. search rules)
    ∙ Testing.entries-same config c.args.v c.args.n
