-- `effect::moves::is_clearable` meets its contract: a law for each way out. Assumes nothing.
use borrow.Author.Rules.{rules}
use Rattle.effect.specs.Moves.{clearable}
use Rattle.effect.proofs.moves.is_clearable.Goals as goal

pub returns-then-clears : goal.returns-then-clears
unfolding clearable
returns-then-clears c = search rules

pub returns-else-clears : goal.returns-else-clears
unfolding clearable
returns-else-clears c = search rules
