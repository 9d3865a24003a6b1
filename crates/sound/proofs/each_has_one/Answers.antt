-- `sound::each_has_one` meets its contract: each place of the table is looked at. Assumes nothing.
use Rattle.model.proofs.Ranges.{every_from_all}
use Rattle.sound.specs.Sound.{every_to, one_in}
use mathlib.Core.Path.{refl}
use borrow.Author.Rules.{rules}
use Rattle.sound.proofs.each_has_one.Goals as goal

pub returns : goal.returns
unfolding every_to one_in
returns c = every_from_all c.args.n (one_in c.args.owned.now) _ _ _ refl c.all.ensures.ran (λ x b q h. search rules)
