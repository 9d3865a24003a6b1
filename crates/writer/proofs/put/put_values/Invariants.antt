-- `writer::put::put_values` meets its contract: the values before v are put down. Assumes nothing.
use Prim.Native.Nat.{◌+◌, ◌-◌, ◌*◌, ◌≤◌}
use Rattle.model.specs.ConfigWrite.{rows_from}
use Rattle.page.specs.Page.{Placed}
use Rattle.writer.specs.Bytes.{any_value_bytes, value_bytes}
use Rattle.writer.proofs.put.put_values.Given as goal

abbrev pub invariant-loop-v : goal.invariant-loop-v
invariant-loop-v l = record {
  near : l.p ≤ l.at + any_value_bytes * (l.v - 1);
  placed : Placed (rows_from (value_bytes l.values) (l.v - 1) 0) l.at l.initial.out l.p l.out;
}
