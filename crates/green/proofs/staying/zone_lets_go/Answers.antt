-- `green::staying::zone_lets_go` meets its contract: the zone is green, or it is not. Assumes nothing.
use mathlib.Core.Path.{◌∙◌}
use borrow.Author.Rules.{rules}
use Rattle.model.proofs.Ranges.{every_from_all}
use Rattle.state.specs.Shown.{shown}
use Rattle.green.specs.Rule.{goes_by}
use Rattle.green.proofs.staying.zone_lets_go.Goals as goal

pub returns : goal.returns
returns c =
    let a = c.args in
    every_from_all a.config.now.counts.objects (goes_by a.config.now (shown a.area.now) a.table.now a.z) _ _ _ (cc)
    c.all.ensures.ran (λ x b q k. search rules)
    ∙ search rules
