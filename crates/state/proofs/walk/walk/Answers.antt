-- `state::walk::walk` meets its contract: every record keeps the rules, or those before the one that was found do.
-- Assumes nothing.
use Prim.Native.Nat.{ℕ, ◌+◌}
use mathlib.Core.Path.{◌≡◌, sym, ◌∙◌, subst}
use mathlib.Core.Bool.{true}
use mathlib.Core.Logic.{by_cases}
use native.Mathlib.Decide.{ℕ_discrete}
use native.Mathlib.Omega.{arith}
use Rattle.std.specs.Prelude.{Some, None}
use Rattle.model.specs.State.{right_object}
use Rattle.state.specs.Shown.{shown}
use Rattle.state.proofs.Records.{first_found}
use Rattle.state.proofs.walk.walk.Goals as goal

pub returns-then-not-is_right : goal.returns-then-not-is_right
returns-then-not-is_right c =
    first_found c.args.config.now (shown c.args.area.now) c.args.area.now.room (Some (c.loop-before.before + 1)) (
      omega arith,
      omega (arith, c.loop-before-test.true),
      sym c.is_right.ensures ∙ c.if-not-is_right.true,
      λ x low high. c.loop-before.invariant x low (omega (arith, high)),
    )

pub loop-before-preserved : goal.loop-before-preserved
loop-before-preserved c = λ x low high.
    by_cases (ℕ_discrete x (c.loop-before.before + 1))
    (λ e. subst (λ (k : ℕ). right_object c.args.config.now (shown c.args.area.now) k ≡ true) (sym e)
    (sym c.is_right.ensures ∙ c.if-not-is_right.false))
    (λ e. c.loop-before.invariant x low (omega (arith, high, e)))

pub returns : goal.returns
returns c =
    first_found c.args.config.now (shown c.args.area.now) c.args.area.now.room None
    (λ x low high. c.loop-before.invariant x low (omega (arith, high, c.loop-before-test.false)))
