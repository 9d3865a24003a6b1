-- `questions::places::placed` meets its contract: each arm of the match is the definition's. Assumes nothing.
use borrow.Author.Rules.{rules}
use Rattle.model.specs.Questions.{q17}
use Rattle.questions.proofs.places.placed.Goals as goal

pub returns-in-Driver : goal.returns-in-Driver
unfolding q17
returns-in-Driver c = search rules

pub returns-in-Device : goal.returns-in-Device
unfolding q17
returns-in-Device c = search rules

pub returns-in-External : goal.returns-in-External
unfolding q17
returns-in-External c = search rules
