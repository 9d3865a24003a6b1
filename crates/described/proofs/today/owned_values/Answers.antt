-- `described::today::owned_values` meets its contract: the objects below o are looked at. Assumes nothing.
use mathlib.Core.Path.{◌≡◌, subst}
use native.Mathlib.Omega.{arith}
use Prim.Native.Nat.{ℕ, ◌-◌}
use Rattle.state.specs.Shown.{shown}
use Rattle.described.specs.Today.{OwnedWords}
use Rattle.described.proofs.Describing.{owned-start, owned_more}
use Rattle.described.proofs.today.owned_values.Goals as goal

pub loop-o-init : goal.loop-o-init
loop-o-init c = owned-start _ _ _ _ _

pub owned_word-x-requires-clause-object : goal.owned_word-x-requires-clause-object
owned_word-x-requires-clause-object c = record { low = omega arith; high = omega (arith, c.from-last.ensures) }

pub loop-o-preserved : goal.loop-o-preserved
loop-o-preserved c =
    let b = c.loop-o in
    owned_more _ _ _ _ _ b.o b.x c.owned_word-x.result (omega arith) b.invariant c.owned_word-x.ensures

pub returns : goal.returns
returns c =
    let b = c.loop-o in
    let objects = c.args.config.now.objects in
    let e : b.o - 1 ≡ c.args.config.now.counts.objects = omega (arith, c.from-last.ensures) in
    subst (λ (n : ℕ). OwnedWords n objects.kind objects.class objects.owner (shown c.args.area.now) c.args.device b.x)
    e b.invariant
