-- `green::rule::value_passes` meets its contract: the value's entries, one by one. Assumes nothing.
use mathlib.Core.Path.{◌∙◌}
use borrow.Author.Rules.{rules}
use Rattle.model.specs.Questions.{green_entry}
use Rattle.state.specs.Shown.{shown}
use Rattle.sound.proofs.Questions.{value-passes}
use Rattle.green.proofs.rule.value_passes.Goals as goal

pub returns : goal.returns
returns c =
    let a = c.args in
    c.entries_all.ensures (green_entry a.config.now (shown a.area.now) a.p) (λ at r l h. search rules)
    ∙ value-passes a.config.now (green_entry a.config.now (shown a.area.now) a.p) a.v
