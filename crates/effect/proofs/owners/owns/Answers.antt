-- `effect::owners::owns` meets its contract: the columns are the configuration's. Assumes nothing.
use mathlib.Core.Path.{ap, ◌∙◌}
use Prim.Native.Nat.{ℕ}
use Rattle.effect.specs.Moves.{owned_by}
use Rattle.state.specs.Change.{objects_lent}
use Rattle.effect.proofs.owners.owns.Goals as goal

pub returns : goal.returns
unfolding owned_by objects_lent
returns c =
    let t = c.args.config.now.objects in
    c.is_owned.ensures ∙ ap (λ (m : ℕ). owned_by m t.class t.owner c.args.class c.args.k c.args.n) c.from.ensures
