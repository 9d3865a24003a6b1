-- `state::fresh::store_hardcoded` meets its contract: a law for each way out. Assumes nothing.
use Rattle.state.proofs.Turns.{value-absent, value-other, value-hardcoded}
use borrow.Author.Rules.{rules}
use Rattle.state.proofs.fresh.store_hardcoded.Goals as goal

pub returns-then-from-n : goal.returns-then-from-n
returns-then-from-n c = search (rules, value-absent)

pub returns-then-byte_at-eq-HARDCODED_KIND : goal.returns-then-byte_at-eq-HARDCODED_KIND
returns-then-byte_at-eq-HARDCODED_KIND c = search (rules, value-hardcoded)

pub returns-else-byte_at-eq-HARDCODED_KIND : goal.returns-else-byte_at-eq-HARDCODED_KIND
returns-else-byte_at-eq-HARDCODED_KIND c = search (rules, value-other)
