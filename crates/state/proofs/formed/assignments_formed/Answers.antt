-- `state::formed::assignments_formed` meets its contract: all drivers, then all devices. Assumes nothing.
use mathlib.Core.Path.{refl}
use borrow.Author.Rules.{rules}
use Rattle.model.specs.Config.{most_drivers, most_devices}
use Rattle.model.specs.State.{right_assignment, driver_in, device_in}
use Rattle.model.proofs.Ranges.{every_from_all}
use Rattle.state.specs.Shown.{shown}
use Rattle.state.specs.Formed.{assignments_right}
use Rattle.state.proofs.Forms.{met, unmet}
use Rattle.state.proofs.formed.assignments_formed.Goals as goal

pub returns-then-all : goal.returns-then-all
unfolding assignments_right
returns-then-all c =
    let b = shown c.args.area.now in
    let counts = c.args.config.now.counts in
    met _ _ _ _ _
    (every_from_all most_drivers (λ d. right_assignment b counts.drivers d (driver_in b d)) _ _ _ refl c.all.ensures.ran
    (λ x r q h. search rules))
    c.if-all.true
    (every_from_all most_devices (λ d. right_assignment b counts.devices d (device_in b d)) _ _ _ refl
    c.all-then-all.ensures.ran (λ x r q h. search rules))
    refl

pub returns-else-all : goal.returns-else-all
unfolding assignments_right
returns-else-all c =
    let b = shown c.args.area.now in
    unmet _ _ _ _
    (every_from_all most_drivers (λ d. right_assignment b c.args.config.now.counts.drivers d (driver_in b d)) _ _ _ refl
    c.all.ensures.ran (λ x r q h. search rules))
    c.if-all.false refl
