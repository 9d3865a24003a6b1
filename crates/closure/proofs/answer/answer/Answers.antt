-- `closure::answer::answer` meets its contract: nothing is strange when all is grown, or what is found is. Assumes
-- nothing.
use native.Mathlib.Omega.{arith}
use Rattle.state.specs.Shown.{shown}
use Rattle.scene.proofs.Digits.{some_bit}
use Rattle.closure.specs.Search.{closure_of}
use Rattle.closure.proofs.Answering.{answers_none, answers_find}
use Rattle.closure.proofs.answer.answer.Goals as goal

pub returns-in-Ok : goal.returns-in-Ok
returns-in-Ok c = λ bad f.
    answers_none (closure_of c.args.config.now (shown c.args.area.now)) _ c.args.fine.now bad c.requires.values f
    (c.in-Ok.ensures.ended (shown c.args.area.now) c.begin-found.ensures)

pub returns-in-Err : goal.returns-in-Err
returns-in-Err c =
    let s = c.in-Err.strange in
    λ bad f.
    answers_find (closure_of c.args.config.now (shown c.args.area.now)) c.settle.new.self.known c.args.fine.now bad
    c.requires.values f s.devices s.value c.find.result c.find.ensures
    (c.in-Err.ensures.suspected (shown c.args.area.now) c.begin-found.ensures)
    (some_bit 64 s.devices c.in-Err.ensures.strange.0 (omega arith))
