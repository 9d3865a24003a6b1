-- `writer::rewrite` meets its contract: the load's refusal, or the writer's answer. Assumes nothing.
use Rattle.std.proofs.lemmas.Result.{err_from_is_err_and}
use Rattle.writer.proofs.Writing
use Rattle.writer.proofs.rewrite.Goals as goal

pub returns-in_err-config : goal.returns-in_err-config
returns-in_err-config c =
    let p = err_from_is_err_and c.from_residual.result c.from_residual.ensures.1 in
    let (f0, f1) = Writing.load_refused c.args.line.now c.args.out.now _ c.load.ensures _
    c.in_err-config.ensures.cases in
    record { value = rw (p.1, p.2) f0; out_after = f1 }

pub returns : goal.returns
returns c =
    let (f0, f1) = Writing.load_written c.args.line.now c.args.out.now _ c.load.ensures _
    c.in_ok-config.ensures.cases c.write.ensures.value c.write.ensures.area_after in
    record { value = f0; out_after = f1 }
