-- `writer::put::put_value` meets its contract: the count, and then the entries before j are put down. Assumes nothing.
use Rattle.writer.specs.Bytes.{entry_bytes_of}
use Rattle.writer.proofs.Putting
use native.Mathlib.Omega.{arith}
use borrow.Author.Rules.{rules}
use Rattle.writer.proofs.put.put_value.Goals as goal

pub loop-j-init : goal.loop-j-init
loop-j-init c = record { near = search rules; placed = Putting.rows_start _ _ _ }

pub loop-j-preserved : goal.loop-j-preserved
unfolding entry_bytes_of
loop-j-preserved c = record {
  near = omega (arith, c.put_three-p.ensures.upper_bound);
  placed = Putting.rows_turn _ _ _ _ c.loop-j.auto.j c.loop-j.invariant.placed
      (rw (← c.entry_place-e.ensures) c.put_three-p.ensures.placed);
}

pub returns : goal.returns
returns c =
    let (f0, f1) = Putting.value_placed _ _ c.requires.places.1 _ _ c.put_number-p.ensures.placed
    (Putting.rows_end _ _ _ _ _ (omega arith) c.loop-j.invariant.placed) in
    record { placed = f0; upper_bound = f1 }
