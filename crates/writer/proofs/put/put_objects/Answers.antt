-- `writer::put::put_objects` meets its contract: the objects before o are put down. Assumes nothing.
use Rattle.writer.specs.Bytes.{object_bytes}
use Rattle.writer.proofs.Putting
use native.Mathlib.Omega.{arith}
use borrow.Author.Rules.{rules}
use Rattle.writer.proofs.put.put_objects.Goals as goal

pub loop-o-init : goal.loop-o-init
loop-o-init c = record { near = search rules; placed = Putting.rows_start _ _ _ }

pub loop-o-preserved : goal.loop-o-preserved
unfolding object_bytes
loop-o-preserved c = record {
  near = omega (arith, c.put_three-p.ensures.upper_bound);
  placed = Putting.rows_turn _ _ _ _ c.loop-o.auto.o c.loop-o.invariant.placed c.put_three-p.ensures.placed;
}

pub returns-clause-placed : goal.returns-clause-placed
returns-clause-placed c = Putting.rows_end _ _ _ _ _ (omega arith) c.loop-o.invariant.placed
