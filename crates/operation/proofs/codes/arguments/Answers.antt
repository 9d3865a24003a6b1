-- `operation::codes::arguments` meets its contract: where elements follow, their kind says which the definition is.
-- Assumes nothing.
use Rattle.std.proofs.Common.{arith}
use Rattle.std.proofs.lemmas.Grind.{common_steps}
use Rattle.model.specs.Operation.{after_code_by, only, writing_by, copying_by, listing_by}
use Rattle.operation.proofs.codes.arguments.Goals as goal

pub returns-in-1-to-2-clause-value : goal.returns-in-1-to-2-clause-value
unfolding after_code_by only writing_by
returns-in-1-to-2-clause-value c = grind (arith, common_steps)

pub returns-in-3-to-4-clause-value : goal.returns-in-3-to-4-clause-value
unfolding after_code_by only copying_by
returns-in-3-to-4-clause-value c = grind (arith, common_steps)

pub returns-in-9-clause-value : goal.returns-in-9-clause-value
unfolding after_code_by only listing_by
returns-in-9-clause-value c = grind (arith, common_steps)
