-- `questions::places::items_within` meets its contract: what `all` answers of the items. Assumes nothing.
use mathlib.Core.Path.{refl}
use borrow.Author.Rules.{rules}
use Rattle.model.proofs.Ranges.{below_from_all}
use Rattle.questions.proofs.places.items_within.Goals as goal

pub returns : goal.returns
returns c = below_from_all _ _ _ _ _ refl c.all.ensures.ran (λ x b q k. search rules)
