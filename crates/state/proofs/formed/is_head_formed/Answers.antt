-- `state::formed::is_head_formed` meets its contract: one part of the head after the other. Assumes nothing.
use mathlib.Core.Path.{refl, sym, ◌∙◌}
use Rattle.state.proofs.Forms.{met, unmet, parts_head}
use Rattle.state.proofs.formed.is_head_formed.Goals as goal
use Rattle.state.proofs.formed.is_head_formed.Goals.{then-statuses_formed, else-statuses_formed}

pub returns-then-assignments_formed : goal.returns-then-assignments_formed
returns-then-assignments_formed c = met c.if-statuses_formed.value _ _ _ _ (elim c.if-statuses_formed.branch [
  | then-statuses_formed w ↦ met _ _ _ _ _ c.statuses_formed.ensures w.if-statuses_formed.true
      w.assignments_formed.ensures w.value-is
  | else-statuses_formed w ↦ unmet _ _ _ _ c.statuses_formed.ensures w.if-statuses_formed.false w.value-is
]) c.if-assignments_formed.true c.locks_formed.ensures refl ∙ sym (parts_head _ _)

pub returns-else-assignments_formed : goal.returns-else-assignments_formed
returns-else-assignments_formed c = unmet c.if-statuses_formed.value _ _ _ (elim c.if-statuses_formed.branch [
  | then-statuses_formed w ↦ met _ _ _ _ _ c.statuses_formed.ensures w.if-statuses_formed.true
      w.assignments_formed.ensures w.value-is
  | else-statuses_formed w ↦ unmet _ _ _ _ c.statuses_formed.ensures w.if-statuses_formed.false w.value-is
]) c.if-assignments_formed.false refl ∙ sym (parts_head _ _)
