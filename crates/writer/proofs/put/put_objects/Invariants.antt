-- `writer::put::put_objects` meets its contract: the objects before o are put down. Assumes nothing.
use Prim.Native.Nat.{◌+◌, ◌-◌, ◌*◌, ◌≤◌}
use Rattle.model.specs.Number.{most_bytes}
use Rattle.model.specs.ConfigWrite.{rows_from}
use Rattle.page.specs.Page.{Placed}
use Rattle.writer.specs.Bytes.{object_bytes}
use Rattle.writer.proofs.put.put_objects.Given as goal

abbrev pub invariant-loop-o : goal.invariant-loop-o
invariant-loop-o l = record {
  near : l.p ≤ l.at + 3 * most_bytes * (l.o - 1);
  placed : Placed (rows_from (object_bytes l.objects) (l.o - 1) 0) l.at l.initial.out l.p l.out;
}
