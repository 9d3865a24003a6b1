-- `config::values::read_value` meets its contract: the refusal of an entry ends the turns. Assumes nothing.
use mathlib.Core.Path.{sym, ◌∙◌}
use Rattle.std.proofs.lemmas.Result.{err_from_is_err_and}
use Rattle.model.specs.ConfigFile.{value_to, set_count, on_field}
use Rattle.config.proofs.Readers
use Rattle.config.proofs.values.read_value.Goals as goal

pub returns-in_err-at : goal.returns-in_err-at
unfolding value_to set_count on_field
returns-in_err-at c =
    let p = err_from_is_err_and c.from_residual-in_err-at.result c.from_residual-in_err-at.ensures.1 in
    rw (p.1, p.2, ← c.in_ok-n.ensures)
    (sym (Readers.ahead_stop _ _ _ _ _ c.loop-j.auto.j c.loop-j-test.true _ c.in_err-at.ensures) ∙ c.loop-j.invariant)
