-- `writer::put::put_value` meets its contract: the entries before j are put down. Assumes nothing.
use Prim.Native.Nat.{◌+◌, ◌-◌, ◌*◌, ◌≤◌}
use Rattle.model.specs.Number.{most_bytes}
use Rattle.model.specs.ConfigWrite.{rows_from}
use Rattle.page.specs.Page.{Placed}
use Rattle.writer.specs.Bytes.{entry_bytes_of}
use Rattle.writer.proofs.put.put_value.Given as goal

abbrev pub invariant-loop-j : goal.invariant-loop-j
invariant-loop-j l = record {
  near : l.p ≤ l.initial.p + 3 * most_bytes * (l.j - 1);
  placed : Placed (rows_from (entry_bytes_of l.values l.v) (l.j - 1) 0) l.initial.p l.initial.out l.p l.out;
}
