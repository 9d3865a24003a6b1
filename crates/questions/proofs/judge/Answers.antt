-- `questions::judge` meets its contract: the first group ends it, or the second answers. Assumes nothing.
use borrow.Author.Rules.{rules}
use Rattle.questions.specs.Items.{names_no, first_no}
use Rattle.questions.proofs.Judging.{first_by_columns}
use Rattle.questions.proofs.judge.Goals as goal

pub returns-in_err-judge_names-clause-value : goal.returns-in_err-judge_names-clause-value
unfolding first_no names_no
returns-in_err-judge_names-clause-value c =
    rw (← c.family_of-f.ensures, ← c.actor_of-a.ensures) (search rules)

pub returns-in_err-judge_names-clause-by_columns : goal.returns-in_err-judge_names-clause-by_columns
returns-in_err-judge_names-clause-by_columns c =
    first_by_columns _ _ _ _ _ (returns-in_err-judge_names-clause-value c)

pub returns-clause-value : goal.returns-clause-value
unfolding first_no names_no
returns-clause-value c = rw (← c.family_of-f.ensures, ← c.actor_of-a.ensures) (search rules)

pub returns-clause-by_columns : goal.returns-clause-by_columns
returns-clause-by_columns c = first_by_columns _ _ _ _ _ (returns-clause-value c)
