-- `searches::transfers::are_described` meets its contract: no device acts, nothing is stored, or the items decide.
-- Assumes nothing.
use borrow.Author.Rules.{rules}
use mathlib.Core.Path.{refl, ◌∙◌, sym}
use Rattle.model.specs.Questions.{transfer}
use Rattle.model.proofs.Ranges.{below_from_all}
use Rattle.state.specs.Shown.{shown}
use Rattle.searches.proofs.Asking
use Rattle.searches.proofs.transfers.are_described.Goals as goal
use Rattle.searches.proofs.transfers.are_described.Goals.{
  then-not-is_by_device-via-then-not-is_by_device,
  then-not-is_by_device-via-else-not-is_by_device+then-not-is_storing,
}

pub returns-then-not-is_by_device : goal.returns-then-not-is_by_device
returns-then-not-is_by_device c =
    elim c.then-not-is_by_device.branch [
      | then-not-is_by_device-via-then-not-is_by_device w ↦
          Asking.q18-other _ _ _ _ _ (sym c.is_by_device.ensures ∙ w.if-not-is_by_device.true)
      | then-not-is_by_device-via-else-not-is_by_device+then-not-is_storing w ↦
          Asking.q18_free _ _ _ _ _ (sym w.is_storing.ensures ∙ w.if-not-is_storing.true)
    ]

pub returns : goal.returns
returns c =
    Asking.q18_items _ _ _ _ _ (sym c.is_by_device.ensures ∙ c.if-not-is_by_device.false)
    (below_from_all c.args.op.now.count
    (transfer c.args.config.now (shown c.args.area.now) c.args.op.now c.args.f) _ _ _ refl c.all.ensures.ran
    (λ x b q h. search rules))
