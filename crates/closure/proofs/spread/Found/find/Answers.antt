-- `closure::spread::Found::find` meets its contract: the pairs of the devices below i are fine. Assumes nothing.
use borrow.Author.Count.{below_more}
use borrow.Author.Tests.{eqb-false}
use mathlib.Core.Path.{sym, ◌∙◌}
use Rattle.closure.proofs.spread.Found.find.Goals.{then-has+in_default, else-has}
use Rattle.closure.proofs.spread.Found.find.Goals as goal

pub loop-i-preserved : goal.loop-i-preserved
loop-i-preserved c = below_more _ _ c.loop-i.invariant (λ e o i.
    elim c.if-has.branch [
      | then-has+in_default w ↦ w.in_default.ensures.none o i
      | else-has w ↦ absurd (eqb-false _ 1 (sym c.has.ensures ∙ w.if-has.false) e)
    ])
