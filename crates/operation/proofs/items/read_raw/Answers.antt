-- `operation::items::read_raw` meets its contract: the bytes are too few, or they are put at the item's place.
-- Assumes nothing.
use Rattle.std.proofs.Common.{arith}
use Rattle.std.proofs.lemmas.Grind.{common_steps}
use Rattle.model.specs.Operation.{raw_item, only, with_raw}
use Rattle.operation.proofs.Parsing.{pasted}
use Rattle.operation.proofs.items.read_raw.Goals as goal

pub returns-in_err-bytes-clause-value : goal.returns-in_err-bytes-clause-value
unfolding raw_item only with_raw
returns-in_err-bytes-clause-value c = grind (arith, common_steps, pasted)

pub returns-clause-value : goal.returns-clause-value
unfolding raw_item only with_raw
returns-clause-value c = grind (arith, common_steps, pasted)
