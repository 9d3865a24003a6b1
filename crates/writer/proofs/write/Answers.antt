-- `writer::write` meets its contract: refused, too short, or put down. Assumes nothing.
use Rattle.std.proofs.lemmas.Result.{err_from_is_err_and}
use Rattle.writer.proofs.Writing
use Rattle.writer.proofs.write.Goals as goal

pub returns-in_err-map_err : goal.returns-in_err-map_err
returns-in_err-map_err c =
    let p = err_from_is_err_and c.from_residual.result c.from_residual.ensures.1 in
    let (f0, f1) = Writing.refused c.args.config.now c.args.area.now _ c.write_question.ensures _
    c.in_err-map_err.ensures.cases in
    record { value = rw (p.1, p.2) f0; area_after = f1 }

pub put_file-n-requires : goal.put_file-n-requires
put_file-n-requires c =
    Writing.ranged c.args.config.now c.args.area.now _ c.write_question.ensures _ c.in_ok-map_err.ensures.cases

pub returns-then-area-n : goal.returns-then-area-n
returns-then-area-n c =
    let (f0, f1) = Writing.short c.args.config.now c.args.area.now _ c.write_question.ensures _
    c.in_ok-map_err.ensures.cases _ _ _ c.put_file-n.ensures c.if-area-n.true in
    record { value = f0; area_after = f1 }

pub put_file-requires : goal.put_file-requires
put_file-requires c =
    Writing.ranged c.args.config.now c.args.area.now _ c.write_question.ensures _ c.in_ok-map_err.ensures.cases

pub returns : goal.returns
returns c =
    let (f0, f1) = Writing.done c.args.config.now c.args.area.now _ c.write_question.ensures _
    c.in_ok-map_err.ensures.cases _ _ _ c.put_file-n.ensures _ _ c.if-area-n.false c.put_file.ensures in
    record { value = f0; area_after = f1 }
