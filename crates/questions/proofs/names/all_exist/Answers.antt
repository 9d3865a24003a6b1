-- `questions::names::all_exist` meets its contract: its parts are the definition's. Assumes nothing.
use borrow.Author.Rules.{rules}
use Rattle.model.specs.Questions.{q11}
use Rattle.questions.proofs.names.all_exist.Goals as goal
use Rattle.questions.proofs.names.all_exist.Goals.{then-actor_exists, else-actor_exists}

pub returns-then-partition_named : goal.returns-then-partition_named
unfolding q11
returns-then-partition_named c = search rules

pub returns-else-partition_named : goal.returns-else-partition_named
unfolding q11
returns-else-partition_named c = search rules
