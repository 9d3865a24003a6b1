-- `state::bytes::load` meets its contract: a copy over the whole of sixteen bytes. Assumes nothing.
use Prim.Native.Nat.{◌+◌, ◌-◌}
use native.Mathlib.Omega.{arith}
use Rattle.state.proofs.Splicing.{loaded}
use Rattle.state.proofs.bytes.load.Goals as goal

pub returns : goal.returns
returns c =
    loaded c.args.s.now c.copy_from_slice.new.self c.args.at 16 (c.args.at + 16 - c.args.at)
    c.copy_from_slice.ensures.after (omega arith)
