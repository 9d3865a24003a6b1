-- `questions::places::judge_places` meets its contract: the questions are asked in the definition's order. Assumes
-- nothing.
use borrow.Author.Rules.{rules}
use Rattle.questions.specs.Items.{places_no}
use Rattle.questions.proofs.places.judge_places.Goals as goal

pub returns-in_err-ask : goal.returns-in_err-ask
unfolding places_no
returns-in_err-ask c = search rules

pub returns-in_err-ask-2 : goal.returns-in_err-ask-2
unfolding places_no
returns-in_err-ask-2 c = search rules

pub returns-in_err-ask-3 : goal.returns-in_err-ask-3
unfolding places_no
returns-in_err-ask-3 c = search rules

pub returns-in_err-ask-4 : goal.returns-in_err-ask-4
unfolding places_no
returns-in_err-ask-4 c = search rules

pub returns : goal.returns
unfolding places_no
returns c = search rules
