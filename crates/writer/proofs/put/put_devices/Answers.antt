-- `writer::put::put_devices` meets its contract: the devices before c are put down. Assumes nothing.
use Rattle.writer.specs.Bytes.{device_bytes}
use Rattle.writer.proofs.Putting
use native.Mathlib.Omega.{arith}
use borrow.Author.Rules.{rules}
use Rattle.writer.proofs.put.put_devices.Goals as goal

pub loop-c-init : goal.loop-c-init
loop-c-init c = record { near = search rules; placed = Putting.rows_start _ _ _ }

pub put_device-p-requires-clause-serial_le_most_serial : goal.put_device-p-requires-clause-serial_le_most_serial
put_device-p-requires-clause-serial_le_most_serial c = c.requires.by_index _ (search rules) (search rules)

pub loop-c-preserved : goal.loop-c-preserved
unfolding device_bytes
loop-c-preserved c = record {
  near = omega (arith, c.put_device-p.ensures.upper_bound);
  placed = Putting.rows_turn _ _ _ _ c.loop-c.auto.c c.loop-c.invariant.placed c.put_device-p.ensures.placed;
}

pub returns-clause-placed : goal.returns-clause-placed
returns-clause-placed c = Putting.rows_end _ _ _ _ _ (omega arith) c.loop-c.invariant.placed
