-- `effect::moves::move_concerned` meets its contract: a law for each actor. Assumes nothing.
use Rattle.effect.proofs.Moving.{by_driver, by_device, by_list}
use Rattle.effect.proofs.moves.move_concerned.Goals as goal

pub returns-in-Driver : goal.returns-in-Driver
returns-in-Driver c =
    rw c.in-Driver.is (by_driver _ _ _ _ _ _ _ _ c.set_driver.ensures c.move_owned.ensures)

pub returns-in-Device : goal.returns-in-Device
returns-in-Device c =
    rw c.in-Device.is (by_device _ _ _ _ _ _ _ _ c.set_device.ensures c.move_owned-in-Device.ensures)

pub returns-in-External : goal.returns-in-External
returns-in-External c =
    rw c.in-External.is (by_list _ _ _ _ _ c.args.area.now c.args.area.now _ c.move_listed.ensures)
