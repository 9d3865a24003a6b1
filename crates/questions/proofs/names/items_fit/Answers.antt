-- `questions::names::items_fit` meets its contract: what `all` answers of the items. Assumes nothing.
use mathlib.Core.Path.{refl}
use borrow.Author.Rules.{rules}
use Rattle.model.specs.Questions.{q13}
use Rattle.model.proofs.Ranges.{below_from_all}
use Rattle.questions.proofs.names.items_fit.Goals as goal

pub returns : goal.returns
unfolding q13
returns c = below_from_all _ _ _ _ _ refl c.all.ensures.ran (λ x b q k. search rules)
