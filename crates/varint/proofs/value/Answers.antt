-- `varint::value` meets its contract. For none, one and two bytes before the last the definition computes to the
-- code's sum. Assumes nothing.
use native.Mathlib.Omega.{arith}
use mathlib.Core.Path.{◌≡◌}
use Rattle.varint.proofs.Numbers
use Rattle.varint.proofs.value.Goals as goal

pub returns-then-n-eq0 : goal.returns-then-n-eq0
returns-then-n-eq0 c = rw (c.if-n-eq0.true, Numbers.value-last c.args.s.now 0 (omega arith)) c.from-first.ensures

pub returns-then-n-eq1 : goal.returns-then-n-eq1
returns-then-n-eq1 c =
    let s = c.args.s.now in
    rw (
      c.if-n-eq1.true,
      Numbers.value_more s 0 (omega arith) 0,
      Numbers.value-last s 1 (omega arith),
      c.from-first.ensures,
      c.from-second.ensures,
    )

pub returns : goal.returns
returns c =
    let s = c.args.s.now in
    let two : c.args.n ≡ 2 = omega arith in
    rw (
      two,
      Numbers.value_more s 0 (omega arith) 1,
      Numbers.value_more s 1 (omega arith) 0,
      Numbers.value-last s 2 (omega arith),
      c.from-first.ensures,
      c.from-second.ensures,
      c.from-third.ensures,
    )
