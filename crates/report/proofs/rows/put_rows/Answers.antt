-- `report::rows::put_rows` meets its contract: the rows of what is left of the session complete the whole. Assumes
-- nothing.
use Prim.Native.Nat.{◌<◌}
use mathlib.Core.Path.{refl, ap, ◌∙◌}
use lib.ListN.{length, take, drop}
use native.Mathlib.Omega.{arith}
use Rattle.std.proofs.lemmas.Bool.Decides.{nat_tests}
use Rattle.model.proofs.OfficeLaws.{number-within}
use Rattle.page.proofs.Laying.{put-within}
use Rattle.report.proofs.Sessions.{onward-done, onward_bad, onward_short, onward-next}
use borrow.Author.Rules.{rules, part_to_end}
use Rattle.report.proofs.rows.put_rows.Goals as goal

pub loop-rest-init : goal.loop-rest-init
loop-rest-init c = (search rules, search rules, record { completes = λ r area answer out x. x })

pub returns-in_default : goal.returns-in_default
returns-in_default c =
    let more : 0 < length c.loop-rest.rest.now =
    grind (arith, nat_tests, c.is_empty.ensures, c.loop-rest-test.true) in
    onward_bad c.loop-rest.invariant.2 _ more c.in_default.ensures.value c.put_cut.ensures

pub slice_bounds-split_at_checked-count : goal.slice_bounds-split_at_checked-count
slice_bounds-split_at_checked-count c = (number-within _ _ _ _ c.in-Ok.ensures.value refl).1

pub slice_bounds-split_at_checked-start : goal.slice_bounds-split_at_checked-start
slice_bounds-split_at_checked-start c = (number-within _ _ _ _ c.in-Ok.ensures.value refl).1

pub returns-in_default-split_at_checked : goal.returns-in_default-split_at_checked
returns-in_default-split_at_checked c =
    let w = number-within _ _ _ _ c.in-Ok.ensures.value refl in
    let x = c.in_default-split_at_checked.ensures.cases in
    onward_short c.loop-rest.invariant.2 _ _ (omega (arith, w.0, w.1)) c.in-Ok.ensures.value (omega (arith, x, w.1))
    c.put_cut-in_default-split_at_checked.ensures

pub loop-rest-smaller : goal.loop-rest-smaller
loop-rest-smaller c =
    let w = number-within _ _ _ _ c.in-Ok.ensures.value refl in
    omega (arith, w.0, w.1, c.in-Some.ensures.cases)

pub loop-rest-preserved : goal.loop-rest-preserved
loop-rest-preserved c =
    let l = c.loop-rest in
    let n = c.in-Ok.n in
    let w = number-within _ _ _ _ c.in-Ok.ensures.value refl in
    let x = c.in-Some.ensures.cases in
    let part = part_to_end l.rest.now c.in-Ok.from in
    let o = c.gate_operate-refusal.ensures in
    let p = c.put_row-end.ensures in (
      omega (arith, x, w.0, l.invariant.0),
      put-within l.end l.out _ p,
      onward-next l.invariant.2 _ _ (omega (arith, w.0, w.1)) c.in-Ok.ensures.value _ _ (x.1 ∙ ap (take n) part)
          (x.2 ∙ ap (drop n) part) (omega (arith, x, w.1)) (rw o.0 at p) o.1 o.2,
    )

pub returns : goal.returns
returns c =
    let l = c.loop-rest.invariant in
    onward-done l.2 (grind (arith, nat_tests, c.is_empty.ensures, c.loop-rest-test.false)) l.1
