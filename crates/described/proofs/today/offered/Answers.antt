-- `described::today::offered` meets its contract: what is seen is read, and what is not to be done is followed and put
-- down, whatever the devices' hardcoded values and serials are. Assumes nothing.
use lib.Bits.{or_lt}
use mathlib.Core.Path.{◌≡◌, refl, subst}
use native.Mathlib.Omega.{arith}
use Prim.Native.Nat.{ℕ, ◌≤◌}
use Rattle.state.specs.Shown.{shown}
use Rattle.scene.specs.Digits.{bit}
use Rattle.scene.specs.Scene.{Scene, In}
use Rattle.scene.proofs.Digits.{bit_zero}
use Rattle.scene.proofs.Ranges.{owners_of}
use Rattle.described.specs.Today.{today}
use Rattle.described.proofs.Describing.{seeing_start, seeing_more, seen_known, today_of_lem, today_none, today_less}
use Rattle.described.proofs.Offering.{noting_start, noting_more, offered_none, offered_of, offered_any}
use Rattle.described.proofs.today.offered.Goals as goal
use Rattle.described.proofs.today.offered.Goals.{
  then-device-eq0-via-then-device-eq0,
  then-device-eq0-via-else-device-eq0+then-from-device,
}

pub returns-then-device-eq0 : goal.returns-then-device-eq0
returns-then-device-eq0 c =
    let m : Scene = today c.args.config.now (shown c.args.area.now) in
    let out : In c.args.config.now.counts.devices c.args.device → ⊥ =
    elim c.then-device-eq0.branch [
      | then-device-eq0-via-then-device-eq0 w ↦ λ i. omega (arith, i.low)
      | then-device-eq0-via-else-device-eq0+then-from-device w ↦ λ i. omega (arith, i.high, w.from.ensures)
    ] in
    let f = offered_none m c.args.device (today_none m c.args.device (owners_of m c.requires.owners) out) in
    record { offered = f; offered_any = offered_any c.args.config.now (shown c.args.area.now) c.args.device f }

pub owned_values-seen-requires-clause-device : goal.owned_values-seen-requires-clause-device
owned_values-seen-requires-clause-device c =
    record { low = omega arith; high = omega (arith, c.requires.values.few-devices) }

pub loop-todo-init : goal.loop-todo-init
loop-todo-init c =
    let m : Scene = today c.args.config.now (shown c.args.area.now) in
    let x = c.owned_values-seen.result in
    record {
      small = omega arith;
      seeing = seeing_start m c.args.device x c.owned_values-seen.ensures;
      noting = noting_start m x;
    }

pub opened_values-requires-clause-v_le_values : goal.opened_values-requires-clause-v_le_values
opened_values-requires-clause-v_le_values c =
    let b = c.loop-todo in
    omega (
      arith,
      seen_known (today c.args.config.now (shown c.args.area.now)) c.args.device refl c.requires.held.held_known
          b.seen b.todo c.lowest-v.result b.invariant.seeing c.lowest-v.ensures.result_value,
    )

pub loop-todo-smaller : goal.loop-todo-smaller
loop-todo-smaller c =
    let b = c.loop-todo in
    today_less b.seen b.todo c.clear.result c.without-new.result
    c.opened_values.result b.invariant.small (omega arith) (omega arith)
    c.clear.ensures.less c.without-new.ensures

pub loop-todo-preserved : goal.loop-todo-preserved
loop-todo-preserved c =
    let m : Scene = today c.args.config.now (shown c.args.area.now) in
    let b = c.loop-todo in
    let v = c.lowest-v.result in
    let f = c.opened_values.ensures in
    let here = c.lowest-v.ensures.result_value in
    let known : v ≤ c.args.config.now.counts.values = seen_known m c.args.device refl
    c.requires.held.held_known b.seen b.todo v b.invariant.seeing here in
    record {
      small = or_lt 64 b.seen c.without-new.result b.invariant.small (omega arith);
      seeing = seeing_more m c.args.device b.seen b.todo c.clear.result c.without-new.result v
          c.opened_values.result c.requires.values known here c.clear.ensures
          c.without-new.ensures f.opened_words b.invariant.seeing;
      noting = noting_more m b.seen b.todo c.clear.result c.without-new.result v
          (b.invariant.seeing.within v here) c.clear.ensures f.noted_all b.invariant.noting;
    }

pub returns : goal.returns
returns c =
    let m : Scene = today c.args.config.now (shown c.args.area.now) in
    let b = c.loop-todo in
    let none : (v : ℕ) → v ≤ c.args.config.now.counts.values → bit b.todo v ≡ 1 → ⊥ =
    λ v h e. bit_zero v (subst (λ (d : ℕ). bit d v ≡ 1) c.loop-todo-test.false e) in
    let f = offered_of m c.args.device b.seen b.todo b.t c.requires.values
    (today_of_lem m c.args.device refl c.requires.held.held_known b.seen b.todo b.invariant.seeing none)
    none b.invariant.noting in
    record { offered = f; offered_any = offered_any c.args.config.now (shown c.args.area.now) c.args.device f }
