-- `state::change::store` meets its contract: a store of sixteen bytes, or none. Assumes nothing.
use mathlib.Core.Logic.{inl, inr}
use borrow.Author.Rules.{rules}
use native.Mathlib.Omega.{arith}
use Rattle.state.proofs.Places.{content-stored, content-left}
use Rattle.state.proofs.change.store.Goals as goal
use Rattle.state.proofs.change.store.Goals.{else-n-ge1-via-then-n-ge1+else-n-room, else-n-ge1-via-else-n-ge1}

pub returns-then-n-room : goal.returns-then-n-room
returns-then-n-room c =
    content-stored c.args.room c.args.area.now c.requires c.args.n c.args.v c.save.new.s (search rules)
    (λ e. omega arith) c.if-n-room.true c.save.ensures

pub returns-else-n-ge1 : goal.returns-else-n-ge1
returns-else-n-ge1 c = content-left _ _ c.requires _ _
    (elim c.else-n-ge1.branch [
      | else-n-ge1-via-then-n-ge1+else-n-room w ↦ inr (omega arith)
      | else-n-ge1-via-else-n-ge1 w ↦ inl (omega arith)
    ])
