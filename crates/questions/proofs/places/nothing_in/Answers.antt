-- `questions::places::nothing_in` meets its contract: what `all` answers of the three columns. Assumes nothing.
use mathlib.Core.Path.{◌≡◌, refl, ◌∙◌}
use mathlib.Core.Bool.{◌&&◌}
use borrow.Author.Rules.{rules}
use Rattle.model.specs.Base.{all}
use Rattle.model.specs.Config.{most_drivers, most_devices}
use Rattle.model.specs.State.{State}
use Rattle.model.proofs.Ranges.{every_from_all}
use Rattle.state.specs.Shown.{shown}
use Rattle.state.proofs.Places.{view_shape}
use Rattle.questions.proofs.Judging.{other, other_at, every_all}
use Rattle.questions.proofs.places.nothing_in.Goals as goal
use Rattle.questions.proofs.places.nothing_in.Goals.{then-all, else-all}

pub returns-then-all-2 : goal.returns-then-all-2
returns-then-all-2 c =
    let a = c.args.area.now in
    let p = c.args.p in
    let b : State = shown a in
    let h = view_shape a.room a.bytes.now in
    let d : c.all.result ≡ all (other p) b.driver =
    every_from_all most_drivers (other_at p b.driver) _ _ _ refl c.all.ensures.ran (λ x r q k. search rules)
    ∙ every_all p b.driver h.drivers in
    let front : c.if-all.value ≡ (all (other p) b.driver && all (other p) b.device) =
    elim c.if-all.branch [
      | then-all w ↦
          let e : w.all-then-all.result ≡ all (other p) b.device =
          every_from_all most_devices (other_at p b.device) _ _ _ refl w.all-then-all.ensures.ran
          (λ x r q k. search rules) ∙ every_all p b.device h.devices in
          search rules
      | else-all w ↦ search rules
    ] in
    let o : c.all-then-all-2.result ≡ all (other p) b.object =
    every_from_all a.room (other_at p b.object) _ _ _ refl c.all-then-all-2.ensures.ran
    (λ x r q k. search rules) ∙ every_all p b.object h.objects in
    search rules

pub returns-else-all-2 : goal.returns-else-all-2
returns-else-all-2 c =
    let a = c.args.area.now in
    let p = c.args.p in
    let b : State = shown a in
    let h = view_shape a.room a.bytes.now in
    let d : c.all.result ≡ all (other p) b.driver =
    every_from_all most_drivers (other_at p b.driver) _ _ _ refl c.all.ensures.ran (λ x r q k. search rules)
    ∙ every_all p b.driver h.drivers in
    let front : c.if-all.value ≡ (all (other p) b.driver && all (other p) b.device) =
    elim c.if-all.branch [
      | then-all w ↦
          let e : w.all-then-all.result ≡ all (other p) b.device =
          every_from_all most_devices (other_at p b.device) _ _ _ refl w.all-then-all.ensures.ran
          (λ x r q k. search rules) ∙ every_all p b.device h.devices in
          search rules
      | else-all w ↦ search rules
    ] in
    search rules
