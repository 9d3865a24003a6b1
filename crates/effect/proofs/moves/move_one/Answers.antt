-- `effect::moves::move_one` meets its contract: a law for each way out. Assumes nothing.
use mathlib.Core.Path.{sym, ◌∙◌}
use Rattle.effect.proofs.Moving.{turn_move, turn_clear}
use Rattle.effect.proofs.moves.move_one.Goals as goal

pub returns-then-is_clearable : goal.returns-then-is_clearable
returns-then-is_clearable c =
    turn_clear _ _ _ _ _ _ _ (sym c.is_clearable.ensures ∙ c.if-is_clearable.true) c.set_object.ensures c.clear.ensures

pub returns-else-is_clearable : goal.returns-else-is_clearable
returns-else-is_clearable c =
    turn_move _ _ _ _ _ _ (sym c.is_clearable.ensures ∙ c.if-is_clearable.false) c.set_object.ensures
