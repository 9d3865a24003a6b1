-- `gate::gate_rewrite` meets its contract: the answer of loading and writing, as a number. Assumes nothing.
use Prim.Native.Nat.{◌<◌}
use mathlib.Core.Path.{sym, subst}
use Rattle.model.specs.Rewriting.{kind_unit, number_of_answer}
use Rattle.model.specs.Written.{Written}
use Rattle.model.proofs.Rewriting.{rewrite_number}
use Rattle.gate.proofs.gate_rewrite.Goals as goal

pub code_of-requires : goal.code_of-requires
code_of-requires c =
    subst (λ (w : Written). number_of_answer w < kind_unit) (sym c.rewrite.ensures.value) (rewrite_number _ _)
