-- `operation::read_operation` meets its contract: what cannot be read is refused, and so is what is left over.
-- Assumes nothing.
use Rattle.std.proofs.Common.{arith}
use Rattle.std.proofs.lemmas.Grind.{common_steps}
use Rattle.model.specs.Operation.{read_operation_by, taken, refused, read, ended}
use Rattle.operation.proofs.read_operation.Goals as goal

pub returns-in_err-code : goal.returns-in_err-code
unfolding read_operation_by taken refused read ended
returns-in_err-code c = grind (arith, common_steps)

pub returns-in_err-op : goal.returns-in_err-op
unfolding read_operation_by taken refused read ended
returns-in_err-op c = grind (arith, common_steps)

pub returns-then-is_done : goal.returns-then-is_done
unfolding read_operation_by taken refused read ended
returns-then-is_done c = grind (arith, common_steps)

pub returns-else-is_done : goal.returns-else-is_done
unfolding read_operation_by taken refused read ended
returns-else-is_done c = grind (arith, common_steps)
