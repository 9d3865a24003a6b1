-- `questions::places::status_fits` meets its contract: each arm of the match is the definition's. Assumes nothing.
use borrow.Author.Rules.{rules}
use Rattle.model.specs.Questions.{q14}
use Rattle.questions.proofs.places.status_fits.Goals as goal

pub returns-in-Create : goal.returns-in-Create
unfolding q14
returns-in-Create c = search rules

pub returns-then-not-names_partition : goal.returns-then-not-names_partition
unfolding q14
returns-then-not-names_partition c = search rules

pub returns-else-not-names_partition : goal.returns-else-not-names_partition
unfolding q14
returns-else-not-names_partition c = search rules
