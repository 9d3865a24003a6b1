-- `gate::gate_load_check` meets its contract: the answer is the loader's. Assumes nothing.
use mathlib.Core.Path.{ap, ◌∙◌}
use Rattle.model.specs.ConfigFile.{accepted, refused}
use Rattle.model.specs.Loaded.{Loaded}
use Rattle.gate.proofs.gate_load_check.Goals as goal

pub returns-in-Ok : goal.returns-in-Ok
unfolding accepted
returns-in-Ok c = ap (λ (l : Loaded). l.answer) c.in-Ok.ensures

pub returns-in-Err : goal.returns-in-Err
unfolding refused
returns-in-Err c = c.number.ensures ∙ ap (λ (l : Loaded). l.answer) c.in-Err.ensures
