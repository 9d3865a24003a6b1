-- Questions 7 to 23 of a call whose configuration was accepted, on an area with `room` object records, and its effect.
use Rattle.std.specs.Prelude.{ℕ, List}
use Rattle.model.specs.Operation.{read_operation}
use Rattle.model.specs.Gate.{verdict, Outcome, outcome}
use Rattle.model.specs.declared.Config.{Config}

unfoldable pub carried : ℕ → Config → List ℕ → List ℕ → List ℕ → Outcome
carried room config area bytes answer =
    outcome room (verdict room config (read_operation bytes) area answer) config (read_operation bytes).1 area answer
