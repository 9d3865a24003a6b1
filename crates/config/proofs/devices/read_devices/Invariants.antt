-- `config::devices::read_devices` meets its contract: the turns from c on, from the place and the table as they are
-- now, are those from the start. Assumes nothing.
use mathlib.Core.Path.{◌≡◌}
use Rattle.model.specs.ConfigFile.{turns, device}
use Rattle.config.proofs.Readers.{ahead}
use Rattle.config.proofs.devices.read_devices.Given as goal

abbrev pub invariant-loop-c : goal.invariant-loop-c
invariant-loop-c l =
    ahead (device l.s l.counts) l.counts.devices l.c l.at l.devices
    ≡ turns (device l.s l.counts) l.counts.devices 0 l.from l.initial.devices
