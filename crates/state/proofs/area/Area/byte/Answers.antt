-- `state::area::Area::byte` meets its contract: a byte of the list, or 0. Assumes nothing.
use mathlib.Core.Logic.{inl, inr}
use native.Mathlib.Omega.{arith}
use Rattle.state.proofs.Places.{byte-in, byte-out}
use Rattle.state.proofs.area.Area.byte.Goals as goal
use Rattle.state.proofs.area.Area.byte.Goals.{else-n-ge1-via-then-n-ge1+else-n-many, else-n-ge1-via-else-n-ge1}

pub returns-then-n-many : goal.returns-then-n-many
returns-then-n-many c = search byte-in

pub returns-else-n-ge1 : goal.returns-else-n-ge1
returns-else-n-ge1 c = byte-out _ _ _ _ _
    (elim c.else-n-ge1.branch [
      | else-n-ge1-via-then-n-ge1+else-n-many w ↦ inr (omega arith)
      | else-n-ge1-via-else-n-ge1 w ↦ inl (omega arith)
    ])
