-- `gate::gate_first_bad` meets its contract: a place is a number that C can take apart. Assumes nothing.
use Prim.Native.Nat.{◌<◌}
use mathlib.Core.Path.{sym, subst}
use Rattle.model.specs.Rewriting.{kind_unit, number_of_answer}
use Rattle.model.specs.Written.{Written}
use Rattle.model.proofs.BadRecord.{bad_number}
use Rattle.gate.proofs.gate_first_bad.Goals as goal

pub code_of-requires : goal.code_of-requires
code_of-requires c =
    subst (λ (w : Written). number_of_answer w < kind_unit) (sym c.first_bad.ensures)
    (bad_number c.args.line.now c.args.state.now)
