-- `green::staying::is_spared` meets its contract: the entries' objects have no mark. Assumes nothing.
use mathlib.Core.Path.{◌∙◌}
use borrow.Author.Rules.{rules}
use Rattle.sound.proofs.Questions.{value-passes}
use Rattle.green.specs.Rule.{spared_by}
use Rattle.green.proofs.staying.is_spared.Goals as goal

pub returns : goal.returns
unfolding spared_by
returns c =
    c.entries_all.ensures (spared_by c.args.table.now) (λ at r l h. search rules)
    ∙ value-passes c.args.config.now (spared_by c.args.table.now) c.args.v
