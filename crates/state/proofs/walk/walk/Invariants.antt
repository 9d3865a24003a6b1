-- `state::walk::walk` meets its contract: the records that were passed keep the rules. Assumes nothing.
use Prim.Native.Nat.{ℕ, ◌≤◌}
use mathlib.Core.Path.{◌≡◌}
use mathlib.Core.Bool.{true}
use Rattle.model.specs.State.{right_object}
use Rattle.state.specs.Shown.{shown}
use Rattle.state.proofs.walk.walk.Given as goal

abbrev pub invariant-loop-before : goal.invariant-loop-before
invariant-loop-before l = (x : ℕ) → 1 ≤ x → x ≤ l.before → right_object l.config (shown l.area) x ≡ true
