-- `closure::spread::Found::touch` meets its contract: no device is new, or the entries are applied for those that are.
-- Assumes nothing.
use native.Mathlib.Nat.{le_of_lt}
use native.Mathlib.Omega.{arith}
use lib.Bits.{or_lt}
use mathlib.Core.Path.{refl}
use mathlib.Core.Logic.{inl}
use Rattle.std.proofs.lemmas.Result.{err_from_is_err_and}
use Rattle.closure.specs.Search.{closure_of}
use Rattle.closure.proofs.Growing.{low_mod}
use Rattle.closure.proofs.Turning.{fresh-each, going_none, suspected_of, going_some, fresh-slack}
use Rattle.closure.proofs.spread.Found.touch.Goals as goal

pub returns-then-r-eq0-clause-going : goal.returns-then-r-eq0-clause-going
returns-then-r-eq0-clause-going c = λ b g.
    going_none (closure_of c.args.config.now b) c.args.fine.now c.args.self.now c.args.done.now c.clear-self.result
    c.without-r.result c.args.v g c.clear-self.ensures c.without-r.ensures c.if-r-eq0.true

pub apply_entries-requires-clause-low : goal.apply_entries-requires-clause-low
apply_entries-requires-clause-low c = low_mod c.without-r.result

pub returns-in_err-apply_entries-clause-suspected : goal.returns-in_err-apply_entries-clause-suspected
returns-in_err-apply_entries-clause-suspected c =
    let p = err_from_is_err_and c.from_residual.result c.from_residual.ensures.1 in
    rw (p.1, p.2)
    (λ b g n e.
    let m = closure_of c.args.config.now b in
    let f = c.args.fine.now in
    let x = c.args.self.now in
    let a = c.args.done.now in
    let d = c.clear-self in
    let w = c.without-r in
    let t = c.apply_entries in
    let sound = t.ensures.sound b (fresh-each m f x a d.result w.result c.args.v g d.ensures w.ensures) g.begun.sound in
    suspected_of m f x a d.result w.result c.args.v g d.ensures w.ensures t.new.self t.ensures.grew _ sound
    c.in_err-apply_entries.ensures.strange_in n e)

pub returns-clause-going : goal.returns-clause-going
returns-clause-going c = λ b g.
    let m = closure_of c.args.config.now b in
    let f = c.args.fine.now in
    let x = c.args.self.now in
    let a = c.args.done.now in
    let d = c.clear-self in
    let w = c.without-r in
    let t = c.apply_entries in
    let sound = t.ensures.sound b (fresh-each m f x a d.result w.result c.args.v g d.ensures w.ensures) g.begun.sound in
    going_some m f x a d.result w.result c.args.v g d.ensures w.ensures t.new.self t.ensures.grew _ (omega arith) refl
    sound (c.in_ok-apply_entries.ensures.entries_in b) c.in_ok-apply_entries.ensures.no_strange

pub returns-clause-less : goal.returns-clause-less
returns-clause-less c =
    inl (fresh-slack c.args.done.now _ c.args.v c.without-r.result _ (omega arith) c.without-r.ensures c.if-r-eq0.false
    refl (le_of_lt (or_lt 64 _ _ (c.fits-done c.args.v) (omega arith))))
