-- `green::rule::keeps_rule` meets its contract: each arm of the match is the definition's. Assumes nothing.
use borrow.Author.Rules.{rules}
use Rattle.model.specs.Questions.{q22}
use Rattle.green.proofs.Ruling.{rule_by_columns}
use Rattle.green.proofs.rule.keeps_rule.Goals as goal

pub returns-in-Write-clause-value : goal.returns-in-Write-clause-value
unfolding q22
returns-in-Write-clause-value c = search rules

pub returns-in-Write-clause-by_columns : goal.returns-in-Write-clause-by_columns
returns-in-Write-clause-by_columns c = rule_by_columns _ _ _ _ _ (returns-in-Write-clause-value c)

pub returns-in-Activate-clause-value : goal.returns-in-Activate-clause-value
unfolding q22
returns-in-Activate-clause-value c = search rules

pub returns-in-Activate-clause-by_columns : goal.returns-in-Activate-clause-by_columns
returns-in-Activate-clause-by_columns c = rule_by_columns _ _ _ _ _ (returns-in-Activate-clause-value c)

pub returns-in_default-clause-value : goal.returns-in_default-clause-value
unfolding q22
returns-in_default-clause-value c = search rules

pub returns-in_default-clause-by_columns : goal.returns-in_default-clause-by_columns
returns-in_default-clause-by_columns c = rule_by_columns _ _ _ _ _ (returns-in_default-clause-value c)
