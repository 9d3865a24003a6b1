-- `state::walk::is_filled` meets its contract: a law for each kind. Assumes nothing.
use borrow.Author.Rules.{rules}
use Rattle.state.proofs.Records.{content-hardcoded, content-value, content_free}
use Rattle.state.proofs.walk.is_filled.Goals as goal

pub returns-in-4 : goal.returns-in-4
returns-in-4 c = search (rules, content-hardcoded)

pub returns-in-1 : goal.returns-in-1
returns-in-1 c = search (rules, content-value)

pub returns-in_default : goal.returns-in_default
returns-in_default c = search (rules, content_free)
