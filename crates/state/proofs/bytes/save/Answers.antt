-- `state::bytes::save` meets its contract: a copy into as many bytes. Assumes nothing.
use native.Mathlib.Omega.{arith}
use Rattle.state.proofs.Splicing.{stored}
use Rattle.state.proofs.bytes.save.Goals as goal

pub returns : goal.returns
returns c = stored _ _ _ _ _ c.copy_from_slice.ensures.after (omega arith)
