-- `closure::spread::Found::settle` meets its contract: each turn keeps what holds, and leaves less to do. Assumes
-- nothing.
use Prim.Native.Nat.{ℕ}
use mathlib.Core.Path.{◌≡◌, refl, sym, subst}
use native.Mathlib.Omega.{arith}
use Rattle.std.proofs.lemmas.Result.{err_from_is_err_and}
use Rattle.scene.specs.Digits.{bit}
use Rattle.scene.specs.Scene.{value_slots}
use Rattle.closure.specs.Search.{closure_of, Suspected}
use Rattle.closure.proofs.Starting.{going_start}
use Rattle.closure.proofs.Turning.{ended_of}
use Rattle.closure.proofs.spread.Found.settle.Goals as goal

pub loop-self-init : goal.loop-self-init
loop-self-init c = record {
  from = omega arith;
  todo = refl;
  going = λ b s. going_start (closure_of c.args.config.now b) c.args.fine.now c.args.self.now value_slots s;
}

pub returns-in_err-touch-clause-suspected : goal.returns-in_err-touch-clause-suspected
returns-in_err-touch-clause-suspected c =
    let p = err_from_is_err_and c.from_residual.result c.from_residual.ensures.1 in
    let e = c.in_err-touch.ensures in
    rw (p.1, p.2)
    (λ b s n h.
    subst (λ (v : ℕ). Suspected (closure_of c.args.config.now b) c.args.fine.now c.touch.new.self.known n v)
    (sym e.strange.1) (e.suspected b (c.loop-self.invariant.going b s) n h))

pub loop-self-preserved-then-v-last : goal.loop-self-preserved-then-v-last
loop-self-preserved-then-v-last c = record {
  from = omega (arith, c.requires.few-values);
  todo = refl;
  going = λ b s. c.in_ok-touch.ensures.going b (c.loop-self.invariant.going b s);
}

pub returns-then-from-eq0-clause-ended : goal.returns-then-from-eq0-clause-ended
returns-then-from-eq0-clause-ended c = λ b s.
    ended_of (closure_of c.args.config.now b) c.args.fine.now c.loop-self.self c.loop-self.done c.requires.few-devices
    (c.loop-self.invariant.going b s)
    (λ v h e. c.next-v.ensures.clear v (omega arith) (omega arith)
    (subst (λ (w : ℕ). bit w v ≡ 1) (sym c.loop-self.invariant.todo) e))
