-- `state::area::Area::content` meets its contract: the content bytes of an object's record, or zeros. Assumes nothing.
use mathlib.Core.Logic.{inl, inr}
use native.Mathlib.Omega.{arith}
use Rattle.state.proofs.Places.{content_in, content-absent}
use Rattle.state.proofs.area.Area.content.Goals as goal
use Rattle.state.proofs.area.Area.content.Goals.{else-n-ge1-via-then-n-ge1+else-n-self, else-n-ge1-via-else-n-ge1}

pub returns-then-n-self : goal.returns-then-n-self
returns-then-n-self c =
    content_in _ _ _ _ c.args.self.now.sized (λ e. omega arith) c.if-n-self.true c.load.ensures

pub returns-else-n-ge1 : goal.returns-else-n-ge1
returns-else-n-ge1 c = content-absent _ _ _
    (elim c.else-n-ge1.branch [
      | else-n-ge1-via-then-n-ge1+else-n-self w ↦ inr (omega arith)
      | else-n-ge1-via-else-n-ge1 w ↦ inl (omega arith)
    ])
