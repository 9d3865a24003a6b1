-- `questions::places::left_empty` meets its contract: a destroyed partition, or another family. Assumes nothing.
use borrow.Author.Rules.{rules}
use Rattle.model.specs.Questions.{q15}
use Rattle.questions.proofs.places.left_empty.Goals as goal

pub returns-then-not-matches : goal.returns-then-not-matches
unfolding q15
returns-then-not-matches c = search rules

pub returns-else-not-matches : goal.returns-else-not-matches
unfolding q15
returns-else-not-matches c = search rules
