-- `varint::long_number` meets its contract: which case of a number it is, by how many bytes lead and whether there is a
-- last one. Assumes nothing.
use Rattle.std.proofs.Common.{sym, refl, ◌∙◌}
use borrow.Author.Tests.{ltb-true, ltb-false}
use Rattle.varint.proofs.Numbers
use Rattle.varint.proofs.long_number.Goals as goal
use Rattle.varint.proofs.long_number.Goals.{else-n-gt0-via-then-n-gt0+else-t-n-eq0, else-n-gt0-via-else-n-gt0}

pub returns-then-has_far_last : goal.returns-then-has_far_last
returns-then-has_far_last c =
    let a = c.args in
    let w = Numbers.rest_some a.s.now a.at _ c.in_ok-t.ensures.ok_part c.get.ensures.lookup.0 in
    let far = ltb-true _ _ (sym c.has_far_last.ensures ∙ c.if-has_far_last.true) in
    Numbers.number-long a.s.now a.at _ w far (c.in_default.ensures far)

pub returns-else-has_far_last : goal.returns-else-has_far_last
returns-else-has_far_last c =
    let a = c.args in
    let w = Numbers.rest_some a.s.now a.at _ c.in_ok-t.ensures.ok_part c.get.ensures.lookup.0 in
    Numbers.number_cut a.s.now a.at _ w (ltb-false _ _ (sym c.has_far_last.ensures ∙ c.if-has_far_last.false))

pub returns-then-t-n-eq0 : goal.returns-then-t-n-eq0
returns-then-t-n-eq0 c =
    let a = c.args in
    let w = Numbers.rest_some a.s.now a.at _ c.in_ok-t.ensures.ok_part c.get.ensures.lookup.0 in
    let z = c.in-Some.ensures in
    Numbers.number_padded a.s.now a.at _ w _ z.0 z.2 c.if-n-gt0.true c.if-t-n-eq0.true

pub returns : goal.returns
returns c =
    let a = c.args in
    let w = Numbers.rest_some a.s.now a.at _ c.in_ok-t.ensures.ok_part c.get.ensures.lookup.0 in
    let z = c.in-Some.ensures in
    elim c.else-n-gt0.branch [
      | else-n-gt0-via-then-n-gt0+else-t-n-eq0 b ↦
          Numbers.number_more a.s.now a.at _ w _ z.0 z.2 z.1 b.if-t-n-eq0.false c.value.ensures refl
      | else-n-gt0-via-else-n-gt0 b ↦
          Numbers.number_one a.s.now a.at _ w _ z.0 z.2 b.if-n-gt0.false c.value.ensures refl
    ]
