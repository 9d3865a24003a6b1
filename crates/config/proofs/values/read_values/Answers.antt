-- `config::values::read_values` meets its contract: the refusal of a turn ends the turns. Assumes nothing.
use mathlib.Core.Path.{sym, ◌∙◌}
use Rattle.std.proofs.lemmas.Result.{err_from_is_err_and}
use Rattle.config.proofs.Readers
use Rattle.config.proofs.values.read_values.Goals as goal

pub returns-in_err-at : goal.returns-in_err-at
returns-in_err-at c =
    let p = err_from_is_err_and c.from_residual.result c.from_residual.ensures.1 in
    rw (p.1, p.2)
    (sym (Readers.ahead_stop _ _ _ _ _ c.loop-v.auto.v c.loop-v-test.true _ c.in_err-at.ensures)
    ∙ c.loop-v.invariant)
