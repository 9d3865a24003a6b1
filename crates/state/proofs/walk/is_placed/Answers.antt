-- `state::walk::is_placed` meets its contract: a law for each class. Assumes nothing.
use borrow.Author.Rules.{rules}
use Rattle.state.proofs.Records.{place-driver, place-device, place_free}
use Rattle.state.proofs.walk.is_placed.Goals as goal

pub returns-in-2 : goal.returns-in-2
returns-in-2 c = search (rules, place-device)

pub returns-in-1 : goal.returns-in-1
returns-in-1 c = search (rules, place-driver)

pub returns-in_default : goal.returns-in_default
returns-in_default c = search (rules, place_free)
