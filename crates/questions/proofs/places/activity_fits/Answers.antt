-- `questions::places::activity_fits` meets its contract: each arm of the match is the definition's. Assumes nothing.
use borrow.Author.Rules.{rules}
use Rattle.model.specs.Questions.{q16}
use Rattle.questions.proofs.places.activity_fits.Goals as goal

pub returns-in-Create : goal.returns-in-Create
unfolding q16
returns-in-Create c = search rules

pub returns-in-Activate : goal.returns-in-Activate
unfolding q16
returns-in-Activate c = search rules

pub returns-in-Write : goal.returns-in-Write
unfolding q16
returns-in-Write c = search rules
