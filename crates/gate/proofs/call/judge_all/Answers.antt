-- `gate::call::judge_all` meets its contract: one law for each way out. Assumes nothing.
use mathlib.Core.Path.{refl, sym, ◌∙◌}
use Rattle.std.proofs.lemmas.Result.{err_from_is_err_and}
use Rattle.searches.proofs.Readying
use Rattle.gate.proofs.Told
use Rattle.gate.proofs.Ruling
use Rattle.gate.proofs.Calling
use Rattle.gate.proofs.call.judge_all.Goals as goal
use Rattle.gate.proofs.call.judge_all.Goals.{then-is_ruled+else-not-keeps_rule, else-is_ruled}

pub returns-in_err-judge : goal.returns-in_err-judge
returns-in_err-judge c =
    let p = err_from_is_err_and c.from_residual.result c.from_residual.ensures.1 in
    rw (p.1, p.2) (Calling.no_first _ _ _ c.in_err-judge.ensures.value (Told.some _))

pub returns-then-not-is_searched : goal.returns-then-not-is_searched
returns-then-not-is_searched c =
    Calling.none_asked _ _ _ c.in_ok-judge.ensures.value refl c.family_of-f.ensures c.actor_of-a.ensures
    c.is_searched.ensures c.if-not-is_searched.true

pub returns-then-not-are_described : goal.returns-then-not-are_described
returns-then-not-are_described c =
    Calling.no_18 _ _ _ c.in_ok-judge.ensures.value refl c.family_of-f.ensures c.actor_of-a.ensures
    c.are_described.ensures c.if-not-are_described.true

pub keeps_rule-requires : goal.keeps_rule-requires
keeps_rule-requires c =
    Readying.narrow_of _ _ _ _ _ _ c.requires.ready
    (Calling.asked_of _ _ _ c.in_ok-judge.ensures.value refl c.family_of-f.ensures c.actor_of-a.ensures
    c.requires.complete)

pub returns-then-not-keeps_rule : goal.returns-then-not-keeps_rule
returns-then-not-keeps_rule c =
    Calling.no_22 _ _ _ c.in_ok-judge.ensures.value refl c.family_of-f.ensures c.actor_of-a.ensures
    c.are_described.ensures c.if-not-are_described.false c.keeps_rule.ensures.value c.if-not-keeps_rule.true

pub follows_confined-requires-clause-asked : goal.follows_confined-requires-clause-asked
follows_confined-requires-clause-asked c =
    Calling.asked_of _ _ _ c.in_ok-judge.ensures.value refl c.family_of-f.ensures c.actor_of-a.ensures
    c.requires.complete

pub returns-then-not-follows_confined : goal.returns-then-not-follows_confined
returns-then-not-follows_confined c =
    Calling.no_next _ _ _ c.in_ok-judge.ensures.value refl c.family_of-f.ensures c.actor_of-a.ensures
    c.are_described.ensures c.if-not-are_described.false (elim c.if-is_ruled.branch [
      | then-is_ruled+else-not-keeps_rule x ↦ sym x.if-not-keeps_rule.false ∙ x.keeps_rule.ensures.value
      | else-is_ruled x ↦ Ruling.unruled _ _ _ _ _ (sym c.is_ruled.ensures ∙ x.if-is_ruled.false)
    ]) refl
    c.follows_confined.ensures c.if-not-follows_confined.true c.next_question.ensures

pub stays_unnamed-requires-clause-asked : goal.stays_unnamed-requires-clause-asked
stays_unnamed-requires-clause-asked c =
    Calling.asked_of _ _ _ c.in_ok-judge.ensures.value refl c.family_of-f.ensures c.actor_of-a.ensures
    c.requires.complete

pub stays_unnamed-requires-clause-a_value : goal.stays_unnamed-requires-clause-a_value
stays_unnamed-requires-clause-a_value c = Calling.placed_of _ _ _ c.in_ok-judge.ensures.value refl c.family_of-f.ensures
    c.actor_of-a.ensures

pub returns-then-not-stays_unnamed : goal.returns-then-not-stays_unnamed
returns-then-not-stays_unnamed c =
    Calling.no_20 _ _ _ c.in_ok-judge.ensures.value refl c.family_of-f.ensures c.actor_of-a.ensures
    c.are_described.ensures c.if-not-are_described.false (elim c.if-is_ruled.branch [
      | then-is_ruled+else-not-keeps_rule x ↦ sym x.if-not-keeps_rule.false ∙ x.keeps_rule.ensures.value
      | else-is_ruled x ↦ Ruling.unruled _ _ _ _ _ (sym c.is_ruled.ensures ∙ x.if-is_ruled.false)
    ]) refl
    c.follows_confined.ensures c.if-not-follows_confined.false c.stays_unnamed.ensures c.if-not-stays_unnamed.true

pub returns-else-not-stays_unnamed : goal.returns-else-not-stays_unnamed
returns-else-not-stays_unnamed c =
    Calling.all_yes _ _ _ c.in_ok-judge.ensures.value refl c.family_of-f.ensures c.actor_of-a.ensures
    c.are_described.ensures c.if-not-are_described.false (elim c.if-is_ruled.branch [
      | then-is_ruled+else-not-keeps_rule x ↦ sym x.if-not-keeps_rule.false ∙ x.keeps_rule.ensures.value
      | else-is_ruled x ↦ Ruling.unruled _ _ _ _ _ (sym c.is_ruled.ensures ∙ x.if-is_ruled.false)
    ]) refl
    c.follows_confined.ensures c.if-not-follows_confined.false c.stays_unnamed.ensures c.if-not-stays_unnamed.false

pub returns-else-is_leaving : goal.returns-else-is_leaving
returns-else-is_leaving c =
    Calling.stays _ _ _ c.in_ok-judge.ensures.value refl c.family_of-f.ensures c.actor_of-a.ensures
    c.are_described.ensures c.if-not-are_described.false (elim c.if-is_ruled.branch [
      | then-is_ruled+else-not-keeps_rule x ↦ sym x.if-not-keeps_rule.false ∙ x.keeps_rule.ensures.value
      | else-is_ruled x ↦ Ruling.unruled _ _ _ _ _ (sym c.is_ruled.ensures ∙ x.if-is_ruled.false)
    ]) refl
    c.follows_confined.ensures c.if-not-follows_confined.false c.is_leaving.ensures c.if-is_leaving.false
