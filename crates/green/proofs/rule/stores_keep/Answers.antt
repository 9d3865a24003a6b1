-- `green::rule::stores_keep` meets its contract: what `all` answers of the items. Assumes nothing.
use mathlib.Core.Path.{refl, ◌∙◌}
use borrow.Author.Rules.{rules}
use Rattle.model.specs.Questions.{zone_of, green_item}
use Rattle.model.proofs.Ranges.{below_from_all}
use Rattle.state.specs.Shown.{shown}
use Rattle.green.proofs.Ruling.{items_at}
use Rattle.green.proofs.rule.stores_keep.Goals as goal

pub returns-else-not-is_green : goal.returns-else-not-is_green
returns-else-not-is_green c =
    let a = c.args in
    let b = shown a.area.now in
    below_from_all a.op.now.count (green_item a.config.now b a.op.now a.f (zone_of b a.op.now a.a)) _ _ _ refl
    c.all.ensures.ran (λ x b q k. search rules)
    ∙ items_at a.config.now b a.op.now a.f a.a (search rules) (search rules)
