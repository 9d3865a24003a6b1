-- `state::change::set_byte` meets its contract: a store of one byte, or none. Assumes nothing.
use mathlib.Core.Logic.{inl, inr}
use native.Mathlib.Omega.{arith}
use Rattle.state.proofs.Places.{byte-stored, byte-kept}
use Rattle.state.proofs.change.set_byte.Goals as goal
use Rattle.state.proofs.change.set_byte.Goals.{else-n-ge1-via-then-n-ge1+else-n-many, else-n-ge1-via-else-n-ge1}

pub returns-then-n-many : goal.returns-then-n-many
returns-then-n-many c = search byte-stored

pub returns-else-n-ge1 : goal.returns-else-n-ge1
returns-else-n-ge1 c = byte-kept _ _ _ _ _ _
    (elim c.else-n-ge1.branch [
      | else-n-ge1-via-then-n-ge1+else-n-many w ↦ inr (omega arith)
      | else-n-ge1-via-else-n-ge1 w ↦ inl (omega arith)
    ])
