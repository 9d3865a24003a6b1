-- `state::formed::is_formed` meets its contract: the head, or the walk, decides. Assumes nothing.
use Rattle.state.proofs.Forms.{housed, formed_head, formed_records}
use borrow.Author.Rules.{rules}
use Rattle.state.proofs.formed.is_formed.Goals as goal

pub walk-requires : goal.walk-requires
walk-requires c = record {
  statuses = c.fill.ensures.statuses;
  of_drivers = c.fill.ensures.of_drivers;
  of_devices = c.fill.ensures.of_devices;
  good = housed _ _ _ _ c.is_head_formed.ensures;
}

pub returns-then-tables : goal.returns-then-tables
returns-then-tables c =
    formed_records _ _ _ _ c.is_head_formed.ensures c.walk.result c.is_none.result c.if-tables.true c.walk.ensures
    (search rules)

pub returns-else-tables : goal.returns-else-tables
returns-else-tables c = formed_head _ _ _ _ c.is_head_formed.ensures c.if-tables.false
