-- `questions::names::item_apart` meets its contract: what `all` answers of the items before it. Assumes nothing.
use mathlib.Core.Path.{refl}
use borrow.Author.Rules.{rules}
use Rattle.model.proofs.Ranges.{below_from_all}
use Rattle.questions.specs.Items.{apart}
use Rattle.questions.proofs.names.item_apart.Goals as goal

pub returns : goal.returns
unfolding apart
returns c = below_from_all _ _ _ _ _ refl c.all.ensures.ran (λ x b q k. search rules)
