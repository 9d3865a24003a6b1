-- `config::devices::read_device` meets its contract: a serial is a number of the row or absent. Assumes nothing.
use Rattle.std.proofs.lemmas.Result.{err_from_is_err_and}
use Rattle.model.specs.ConfigFile.{device_to, stop, read, set_device, on_field}
use Rattle.config.proofs.Readers
use Rattle.config.proofs.devices.read_device.Goals as goal

pub returns-in_err-serial : goal.returns-in_err-serial
unfolding device_to stop on_field
returns-in_err-serial c =
    let p = err_from_is_err_and c.from_residual-in_err-serial.result c.from_residual-in_err-serial.ensures.1 in
    rw (
      p.1,
      p.2,
      ← c.in_ok-hardcoded.ensures,
      ← Readers.serial_row c.args.s.now _ _ _ _,
      ← c.in_err-serial.ensures,
    )

pub returns : goal.returns
unfolding device_to read set_device on_field
returns c =
    rw (← c.in_ok-hardcoded.ensures, ← Readers.serial_row c.args.s.now _ _ _ _, ← c.in_ok-serial.ensures)
