-- `config::load` meets its contract: each group that goes on is `group_go`, the one that is refused ends the reading;
-- then the first no among questions 4 to 6 decides. Assumes nothing.
use Rattle.std.proofs.lemmas.Result.{err_from_is_err_and}
use Rattle.config.proofs.Loading
use Rattle.config.proofs.load.Goals as goal

pub returns-in_err-counts : goal.returns-in_err-counts
returns-in_err-counts c =
    let p = err_from_is_err_and c.from_residual.result c.from_residual.ensures.1 in
    rw (p.1, p.2)
    (Loading.counts_stop _ _ c.in_err-counts.ensures.value)

pub returns-in_err-at : goal.returns-in_err-at
returns-in_err-at c =
    let p = err_from_is_err_and c.from_residual-in_err-at.result c.from_residual-in_err-at.ensures.1 in
    rw (p.1, p.2)
    (Loading.objects_stop _ _ _ c.in_ok-counts.ensures.value _ c.blank-config.ensures _ _ c.in_err-at.ensures)

pub returns-in_err-at-2 : goal.returns-in_err-at-2
returns-in_err-at-2 c =
    let p = err_from_is_err_and c.from_residual-in_err-at-2.result c.from_residual-in_err-at-2.ensures.1 in
    rw (p.1, p.2)
    (Loading.devices_stop _ _ _ c.in_ok-counts.ensures.value _ c.blank-config.ensures _ _ c.in_ok-at.ensures _ _
    c.in_err-at-2.ensures)

pub returns-in_err-at-3 : goal.returns-in_err-at-3
returns-in_err-at-3 c =
    let p = err_from_is_err_and c.from_residual-in_err-at-3.result c.from_residual-in_err-at-3.ensures.1 in
    rw (p.1, p.2)
    (Loading.values_stop _ _ _ c.in_ok-counts.ensures.value _ c.blank-config.ensures _ _ c.in_ok-at.ensures _ _
    c.in_ok-at-2.ensures _ _ c.in_err-at-3.ensures)

pub returns-then-at-file : goal.returns-then-at-file
returns-then-at-file c =
    Loading.all_go _ _ _ c.in_ok-counts.ensures.value _ c.blank-config.ensures _ _ c.in_ok-at.ensures _ _
    c.in_ok-at-2.ensures _ _ c.in_ok-at-3.ensures
    (Loading.left_over _ _ _ c.if-at-file.true)

pub returns-then-not-is_paired : goal.returns-then-not-is_paired
returns-then-not-is_paired c =
    Loading.all_go _ _ _ c.in_ok-counts.ensures.value _ c.blank-config.ensures _ _ c.in_ok-at.ensures _ _
    c.in_ok-at-2.ensures _ _ c.in_ok-at-3.ensures
    (Loading.unpaired _ _ _ c.if-at-file.false c.if-not-is_paired.ensures)

pub returns-then-not-is_restrained : goal.returns-then-not-is_restrained
returns-then-not-is_restrained c =
    Loading.all_go _ _ _ c.in_ok-counts.ensures.value _ c.blank-config.ensures _ _ c.in_ok-at.ensures _ _
    c.in_ok-at-2.ensures _ _ c.in_ok-at-3.ensures
    (Loading.unrestrained _ _ _ c.if-at-file.false c.if-not-is_paired.ensures c.if-not-is_restrained.ensures)

pub returns : goal.returns
returns c =
    Loading.all_go _ _ _ c.in_ok-counts.ensures.value _ c.blank-config.ensures _ _ c.in_ok-at.ensures _ _
    c.in_ok-at-2.ensures _ _ c.in_ok-at-3.ensures
    (Loading.accepts _ _ _ c.if-at-file.false c.if-not-is_paired.ensures c.if-not-is_restrained.ensures)
