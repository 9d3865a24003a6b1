-- `questions::places::lock_fits` meets its contract: each arm of the match is the definition's. Assumes nothing.
use borrow.Author.Rules.{rules}
use Rattle.model.specs.Questions.{q23}
use Rattle.questions.proofs.places.lock_fits.Goals as goal

pub returns-in-Activate : goal.returns-in-Activate
unfolding q23
returns-in-Activate c = search rules

pub returns-in-Unlock : goal.returns-in-Unlock
unfolding q23
returns-in-Unlock c = search rules

pub returns-in_default : goal.returns-in_default
unfolding q23
returns-in_default c = search rules
