-- `vectors::memory::written` is safe and ends: the writer's number is below the unit of kinds. Assumes nothing.
use Prim.Native.Nat.{◌<◌}
use mathlib.Core.Path.{sym, subst}
use Rattle.model.specs.Rewriting.{kind_unit, number_of_answer}
use Rattle.model.specs.Written.{Written}
use Rattle.model.proofs.Rewriting.{write_number}
use Rattle.vectors.proofs.memory.written.Goals as goal

pub code_of-answer-requires : goal.code_of-answer-requires
code_of-answer-requires c =
    subst (λ (w : Written). number_of_answer w < kind_unit) (sym c.write.ensures.value) (write_number _ _)
