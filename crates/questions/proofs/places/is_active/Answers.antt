-- `questions::places::is_active` meets its contract: what `all` answers of listed objects. Assumes nothing.
use mathlib.Core.Path.{refl, ◌∙◌}
use borrow.Author.Rules.{rules}
use Rattle.model.proofs.Ranges.{below_from_all}
use Rattle.state.specs.Shown.{shown}
use Rattle.questions.proofs.Judging.{listed, all_listed}
use Rattle.questions.proofs.places.is_active.Goals as goal

pub returns-in-External : goal.returns-in-External
returns-in-External c =
    let a = c.args in
    let b = shown a.area.now in
    rw c.in-External.is
    (below_from_all _ (listed b a.op.now a.wanted) _ _ _ refl c.all.ensures.ran (λ x r q k. search rules)
    ∙ all_listed b a.op.now a.wanted)
