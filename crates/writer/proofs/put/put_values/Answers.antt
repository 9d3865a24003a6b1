-- `writer::put::put_values` meets its contract: the values before v are put down. Assumes nothing.
use Rattle.writer.proofs.Putting
use native.Mathlib.Omega.{arith}
use borrow.Author.Rules.{rules}
use Rattle.writer.proofs.put.put_values.Goals as goal

pub loop-v-init : goal.loop-v-init
loop-v-init c = record { near = search rules; placed = Putting.rows_start _ _ _ }

pub put_value-p-requires-clause-places : goal.put_value-p-requires-clause-places
put_value-p-requires-clause-places c = (search rules, c.requires.by_index _ (search rules) (search rules))

pub loop-v-preserved : goal.loop-v-preserved
loop-v-preserved c = record {
  near = omega (arith, c.put_value-p.ensures.upper_bound);
  placed = Putting.rows_turn _ _ _ _ c.loop-v.auto.v c.loop-v.invariant.placed c.put_value-p.ensures.placed;
}

pub returns : goal.returns
returns c = Putting.rows_end _ _ _ _ _ (omega arith) c.loop-v.invariant.placed
