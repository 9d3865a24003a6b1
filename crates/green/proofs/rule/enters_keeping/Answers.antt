-- `green::rule::enters_keeping` meets its contract: by the actor, the zone and the device. Assumes nothing.
use borrow.Author.Rules.{rules}
use Rattle.model.specs.Questions.{q22}
use Rattle.green.proofs.rule.enters_keeping.Goals as goal

pub returns-then-not-is_green : goal.returns-then-not-is_green
unfolding q22
returns-then-not-is_green c = search rules

pub returns-else-not-is_green : goal.returns-else-not-is_green
unfolding q22
returns-else-not-is_green c = search rules
