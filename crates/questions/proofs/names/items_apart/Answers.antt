-- `questions::names::items_apart` meets its contract: what `all` answers of the items. Assumes nothing.
use mathlib.Core.Path.{refl}
use borrow.Author.Rules.{rules}
use Rattle.model.specs.Questions.{q12}
use Rattle.model.proofs.Ranges.{below_from_all}
use Rattle.questions.specs.Items.{apart}
use Rattle.questions.proofs.names.items_apart.Goals as goal

pub returns : goal.returns
unfolding q12 apart
returns c = below_from_all _ (apart c.args.op.now c.args.f) _ _ _ refl c.all.ensures.ran (λ x b q k. search rules)
