-- `scene::words::next` meets its contract: what the trailing zeros of the shifted word are. Assumes nothing.
use native.Mathlib.Omega.{arith}
use lib.Count.{trailing_le}
use Prim.Native.Nat.{◌/◌, ◌^◌}
use Rattle.scene.proofs.Digits.{next_none, next_some, next_fits}
use Rattle.scene.proofs.words.next.Goals as goal

pub returns-then-s-eq0 : goal.returns-then-s-eq0
returns-then-s-eq0 c =
    let a = c.args in
    next_none a.w a.from (omega arith) c.if-s-eq0.true

pub overflow_cast-result : goal.overflow_cast-result
overflow_cast-result c =
    let a = c.args in
    record { fits = omega (arith, trailing_le 64 (a.w / 2 ^ a.from)) }

pub overflow_add-result : goal.overflow_add-result
overflow_add-result c =
    let a = c.args in
    record { fits = omega (arith, next_fits a.w a.from (omega arith) c.if-s-eq0.false) }

pub returns-else-s-eq0 : goal.returns-else-s-eq0
returns-else-s-eq0 c =
    let a = c.args in
    next_some a.w a.from (omega arith) c.if-s-eq0.false
