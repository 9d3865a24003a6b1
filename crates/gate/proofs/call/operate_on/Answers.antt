-- `gate::call::operate_on` meets its contract: one law for each way out. Assumes nothing.
use mathlib.Core.Path.{refl, ap}
use native.Mathlib.Omega.{arith}
use Rattle.std.proofs.lemmas.Result.{err_from_is_err_and}
use Rattle.searches.proofs.Readying
use Rattle.gate.proofs.Told
use Rattle.gate.proofs.Calling
use Rattle.gate.proofs.call.operate_on.Goals as goal

pub right_length-requires : goal.right_length-requires
right_length-requires c = Readying.room_small c.args.room c.requires.room_le_most_objects

pub returns-then-not-right_length : goal.returns-then-not-right_length
returns-then-not-right_length c =
    let h = Calling.no_7 c.args.config.now c.args.room c.args.state.now c.args.rec.now c.args.answer.now
    c.right_length.ensures c.if-not-right_length.true in
    record { value = h.0; state_after = h.1.0; answer_after = h.1.1 }

pub returns-then-answer-lt-ANSWER_BYTES : goal.returns-then-answer-lt-ANSWER_BYTES
returns-then-answer-lt-ANSWER_BYTES c =
    let h = Calling.no_8 c.args.config.now c.args.room c.args.state.now c.args.rec.now c.args.answer.now
    c.right_length.ensures c.if-not-right_length.false c.if-answer-lt-ANSWER_BYTES.true in
    record { value = h.0; state_after = h.1.0; answer_after = h.1.1 }

pub returns-then-not-is_formed : goal.returns-then-not-is_formed
returns-then-not-is_formed c =
    let h = Calling.no_9 c.args.config.now c.args.room c.args.state.now c.args.rec.now c.args.answer.now
    c.right_length.ensures c.if-not-right_length.false c.if-answer-lt-ANSWER_BYTES.false c.is_formed.ensures
    c.if-not-is_formed.true in
    record { value = h.0; state_after = h.1.0; answer_after = h.1.1 }

pub returns-in_default : goal.returns-in_default
returns-in_default c =
    let h = Calling.no_10 c.args.config.now c.args.room c.args.state.now c.args.rec.now c.args.answer.now
    c.right_length.ensures c.if-not-right_length.false c.if-answer-lt-ANSWER_BYTES.false c.is_formed.ensures
    c.if-not-is_formed.false (ap (λ p. p.0) c.in_default.ensures) (ap (λ p. p.1) c.in_default.ensures) (λ z. absurd
    (omega (arith, z))) in
    record { value = h.0; state_after = h.1.0; answer_after = h.1.1 }

pub judge_all-requires-clause-ready : goal.judge_all-requires-clause-ready
judge_all-requires-clause-ready c = Readying.ready_of c.args.config.now c.args.room c.args.state.now c.requires.accepted
    (c.requires.objects_le_room, c.requires.room_le_most_objects)
    c.right_length.ensures c.if-not-right_length.false c.is_formed.ensures c.if-not-is_formed.false

pub judge_all-requires-clause-complete : goal.judge_all-requires-clause-complete
judge_all-requires-clause-complete c = Readying.complete_of c.args.rec.now (ap (λ p. p.0) c.in-Some.ensures) (ap
    (λ p. p.1) c.in-Some.ensures) refl

pub returns-in_err-judge_all : goal.returns-in_err-judge_all
returns-in_err-judge_all c =
    let p = err_from_is_err_and c.from_residual.result c.from_residual.ensures.1 in
    let h = Calling.no_11 c.args.config.now c.args.room c.args.state.now c.args.rec.now c.args.answer.now
    c.right_length.ensures c.if-not-right_length.false c.if-answer-lt-ANSWER_BYTES.false c.is_formed.ensures
    c.if-not-is_formed.false (ap (λ p. p.0) c.in-Some.ensures) (ap (λ p. p.1) c.in-Some.ensures) refl
    c.in_err-judge_all.ensures (Told.some _) in
    rw (p.1, p.2) (record { value = h.0; state_after = h.1.0; answer_after = h.1.1 })

pub carry_out-requires : goal.carry_out-requires
carry_out-requires c =
    Readying.passed_fit c.args.config.now c.args.room c.args.state.now c.args.answer.now _
    (Readying.ready_of c.args.config.now c.args.room c.args.state.now c.requires.accepted
    (c.requires.objects_le_room, c.requires.room_le_most_objects)
    c.right_length.ensures c.if-not-right_length.false c.is_formed.ensures c.if-not-is_formed.false)
    (Readying.complete_of c.args.rec.now (ap (λ p. p.0) c.in-Some.ensures) (ap (λ p. p.1) c.in-Some.ensures) refl)
    c.in_ok-judge_all.ensures refl c.if-answer-lt-ANSWER_BYTES.false

pub returns : goal.returns
returns c =
    let h = Calling.done c.args.config.now c.args.room c.args.state.now c.args.rec.now c.args.answer.now
    c.right_length.ensures c.if-not-right_length.false c.if-answer-lt-ANSWER_BYTES.false c.is_formed.ensures
    c.if-not-is_formed.false (ap (λ p. p.0) c.in-Some.ensures) (ap (λ p. p.1) c.in-Some.ensures) refl
    c.in_ok-judge_all.ensures refl c.carry_out.ensures.area_after c.carry_out.ensures.answer_after in
    record { value = h.0; state_after = h.1.0; answer_after = h.1.1 }
