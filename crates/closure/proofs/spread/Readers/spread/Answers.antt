-- `closure::spread::Readers::spread` meets its contract: the values that are not in q were given the devices. Assumes
-- nothing.
use native.Mathlib.Omega.{arith}
use Rattle.model.specs.Config.{most_devices}
use Rattle.scene.specs.Scene.{value_slots}
use Rattle.scene.proofs.Digits.{high_bit, bit_below}
use Rattle.closure.proofs.Giving.{giving_none, giving_all}
use Rattle.closure.proofs.spread.Readers.spread.Goals as goal

pub loop-q-init : goal.loop-q-init
loop-q-init c =
    (omega arith, giving_none c.args.x _ c.args.r c.args.self.now (high_bit c.args.x most_devices))

pub give-requires : goal.give-requires
give-requires c =
    omega (
      arith,
      bit_below c.loop-q.q value_slots c.lowest-v.result c.loop-q.invariant.0
          c.lowest-v.ensures.result_value,
    )

pub returns : goal.returns
returns c = giving_all c.loop-q-test.false c.loop-q.invariant.1
