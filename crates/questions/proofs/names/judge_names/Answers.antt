-- `questions::names::judge_names` meets its contract: the questions are asked in the definition's order. Assumes
-- nothing.
use borrow.Author.Rules.{rules}
use Rattle.questions.specs.Items.{names_no}
use Rattle.questions.proofs.names.judge_names.Goals as goal

pub returns-in_err-ask : goal.returns-in_err-ask
unfolding names_no
returns-in_err-ask c = search rules

pub returns-in_err-ask-2 : goal.returns-in_err-ask-2
unfolding names_no
returns-in_err-ask-2 c = search rules

pub returns : goal.returns
unfolding names_no
returns c = search rules
