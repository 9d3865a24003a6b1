-- `effect::transfers::copy_contents` meets its contract: sources into the answer area, then from there to the
-- destinations. Assumes nothing.
use Rattle.effect.proofs.Carrying.{copy_answer, copy_whole}
use Rattle.effect.proofs.transfers.copy_contents.Goals as goal

pub returns-clause-area_after : goal.returns-clause-area_after
returns-clause-area_after c = copy_whole _ _ _ _ _ _ c.read_out.ensures c.store_copies.ensures

pub returns-clause-answer_after : goal.returns-clause-answer_after
returns-clause-answer_after c = copy_answer _ _ _ _ c.args.answer.now _ c.read_out.ensures
