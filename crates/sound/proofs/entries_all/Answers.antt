-- `sound::entries_all` meets its contract: the entries from i on pass exactly if all do. Assumes nothing.
use native.Mathlib.Omega.{arith}
use Prim.Native.Nat.{◌+◌, ◌*◌}
use mathlib.Core.Path.{◌≡◌, sym, ◌∙◌}
use Rattle.sound.proofs.Questions
use Rattle.sound.proofs.entries_all.Goals as goal

pub returns-then-v-eq0 : goal.returns-then-v-eq0
returns-then-v-eq0 g c = λ p tells. Questions.passes_none _ _ _ _ c.if-v-eq0.true

pub returns-then-not-passes : goal.returns-then-not-passes
returns-then-not-passes g c = λ p tells.
    Questions.passes_some _ _ _ _ _ _ _ c.if-v-eq0.false c.byte_at-k.ensures c.entry_place-from.ensures
    (sym (Questions.from_stop p _ _ _ _ c.loop-i-test.true
    (tells _ _ (omega (arith, c.entry_place-from.ensures)) c.passes.ensures) c.if-not-passes.true)
    ∙ c.loop-i.invariant p tells)

pub loop-i-preserved : goal.loop-i-preserved
loop-i-preserved g c = λ p tells.
    let from = c.entry_place-from.result in
    let e : from + 3 * (c.loop-i.i + 1) ≡ from + 3 * c.loop-i.i + 3 = omega arith in
    rw e
    (sym (Questions.from_go p _ _ _ _ c.loop-i-test.true
    (tells _ _ (omega (arith, c.entry_place-from.ensures)) c.passes.ensures) c.if-not-passes.false)
    ∙ c.loop-i.invariant p tells)

pub returns : goal.returns
returns g c = λ p tells.
    Questions.passes_some _ _ _ _ _ _ _ c.if-v-eq0.false c.byte_at-k.ensures c.entry_place-from.ensures
    (sym (Questions.from_end _ _ _ _ _ c.loop-i-test.false) ∙ c.loop-i.invariant p tells)
