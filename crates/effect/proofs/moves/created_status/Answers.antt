-- `effect::moves::created_status` meets its contract: the code is that of a green zone, or it is not. Assumes nothing.
use borrow.Author.Tests.{eq-eqb, ne_eqb}
use Rattle.model.specs.Operation.{green_code}
use Rattle.effect.proofs.moves.created_status.Goals as goal

pub returns-then-code-eq-GREEN_CODE : goal.returns-then-code-eq-GREEN_CODE
returns-then-code-eq-GREEN_CODE c = rw (eq-eqb _ green_code c.if-code-eq-GREEN_CODE.true)

pub returns-else-code-eq-GREEN_CODE : goal.returns-else-code-eq-GREEN_CODE
returns-else-code-eq-GREEN_CODE c = rw (ne_eqb _ green_code c.if-code-eq-GREEN_CODE.false)
