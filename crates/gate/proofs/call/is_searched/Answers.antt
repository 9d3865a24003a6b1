-- `gate::call::is_searched` meets its contract: each test is the definition's. Assumes nothing.

use Rattle.gate.proofs.call.is_searched.Goals as goal

pub returns : goal.returns
returns c =
    rw (c.is_storing.ensures, c.is_leaving.ensures, c.is_entering.ensures)
