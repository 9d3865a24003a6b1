-- `green::rule::item_passes` meets its contract: what a write stores into kind 1 fits a byte. Assumes nothing.
use borrow.Author.Rules.{rules}
use Rattle.green.specs.Rule.{Narrow}
use Rattle.green.proofs.rule.item_passes.Goals as goal

pub overflow_cast-v : goal.overflow_cast-v
unfolding Narrow
overflow_cast-v c = search rules
