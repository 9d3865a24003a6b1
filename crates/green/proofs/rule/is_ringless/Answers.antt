-- `green::rule::is_ringless` meets its contract: the hardcoded value's entries, one by one. Assumes nothing.
use mathlib.Core.Path.{◌∙◌}
use borrow.Author.Rules.{rules}
use Rattle.model.specs.Questions.{quiet_entry}
use Rattle.sound.proofs.Questions.{value-passes}
use Rattle.green.proofs.rule.is_ringless.Goals as goal

pub returns : goal.returns
returns c =
    let config = c.args.config.now in
    rw (← c.byte_at-v.ensures)
    (c.entries_all.ensures (quiet_entry config) (λ at r l h. search rules)
    ∙ value-passes config (quiet_entry config) c.byte_at-v.result)
