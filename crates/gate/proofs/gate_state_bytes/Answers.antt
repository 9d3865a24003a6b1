-- `gate::gate_state_bytes` meets its contract: a length is a number that C can take apart. Assumes nothing.
use Prim.Native.Nat.{◌<◌}
use mathlib.Core.Path.{sym, subst}
use Rattle.model.specs.Rewriting.{kind_unit, number_of_answer}
use Rattle.model.specs.Written.{Written}
use Rattle.model.proofs.AreaNeeded.{bytes-number}
use Rattle.gate.proofs.gate_state_bytes.Goals as goal

pub code_of-requires : goal.code_of-requires
code_of-requires c =
    subst (λ (w : Written). number_of_answer w < kind_unit) (sym c.state_bytes.ensures) (bytes-number c.args.line.now)
