-- `state::walk::is_right` meets its contract: a law for each way out. Assumes nothing.
use Rattle.state.proofs.Records.{absent-content, record-place, record-content}
use borrow.Author.Rules.{rules}
use Rattle.state.proofs.walk.is_right.Goals as goal

pub returns-then-is_placed : goal.returns-then-is_placed
returns-then-is_placed c = search (rules, record-content)

pub returns-else-is_placed : goal.returns-else-is_placed
returns-else-is_placed c = search (rules, record-place)

pub returns-then-object-eq0 : goal.returns-then-object-eq0
returns-then-object-eq0 c = search (rules, absent-content)
