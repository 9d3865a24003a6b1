-- `writer::put::put_devices` meets its contract: the devices before c are put down. Assumes nothing.
use Prim.Native.Nat.{◌+◌, ◌-◌, ◌*◌, ◌≤◌}
use Rattle.model.specs.Number.{most_bytes}
use Rattle.model.specs.ConfigWrite.{rows_from}
use Rattle.page.specs.Page.{Placed}
use Rattle.writer.specs.Bytes.{device_bytes}
use Rattle.writer.proofs.put.put_devices.Given as goal

abbrev pub invariant-loop-c : goal.invariant-loop-c
invariant-loop-c l = record {
  near : l.p ≤ l.at + 2 * most_bytes * (l.c - 1);
  placed : Placed (rows_from (device_bytes l.edition l.devices) (l.c - 1) 0) l.at l.initial.out l.p l.out;
}
