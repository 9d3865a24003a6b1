-- `green::staying::lets_go` meets its contract: a descriptor that stays holds a value of the table's. Assumes nothing.
use borrow.Author.Rules.{rules}
use Rattle.green.specs.Rule.{Spares, goes_by}
use Rattle.green.proofs.staying.lets_go.Goals as goal

pub returns-then-not-matches : goal.returns-then-not-matches
unfolding goes_by
returns-then-not-matches c = search rules

pub returns : goal.returns
unfolding goes_by Spares
returns c = search rules
