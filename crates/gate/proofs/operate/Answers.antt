-- `gate::operate` meets its contract: the file is refused, or the call is carried out. Assumes nothing.
use Rattle.std.proofs.lemmas.Result.{err_from_is_err_and}
use mathlib.Core.Path.{refl}
use Rattle.model.specs.ConfigFile.{accepted}
use Rattle.searches.proofs.Readying
use Rattle.gate.proofs.Calling
use Rattle.gate.proofs.operate.Goals as goal

pub returns-in_err-config : goal.returns-in_err-config
returns-in_err-config c =
    let p = err_from_is_err_and c.from_residual.result c.from_residual.ensures.1 in
    rw (p.1, p.2) (Calling.file-refused _ _ _ _ _ c.in_err-config.ensures)

pub operate_on-requires-clause-accepted : goal.operate_on-requires-clause-accepted
unfolding accepted
operate_on-requires-clause-accepted c = Readying.accepted_of _ c.in_ok-config.ensures refl

pub operate_on-requires-clause-objects_le_room : goal.operate_on-requires-clause-objects_le_room
unfolding accepted
operate_on-requires-clause-objects_le_room c =
    (Readying.room_of _ (Readying.accepted_of _ c.in_ok-config.ensures refl) c.room_for.ensures).0

pub operate_on-requires-clause-room_le_most_objects : goal.operate_on-requires-clause-room_le_most_objects
unfolding accepted
operate_on-requires-clause-room_le_most_objects c =
    (Readying.room_of _ (Readying.accepted_of _ c.in_ok-config.ensures refl) c.room_for.ensures).1

pub returns : goal.returns
returns c =
    Calling.file-accepted _ _ _ _ _ c.in_ok-config.ensures c.room_for.ensures
    (c.operate_on.ensures.value, (c.operate_on.ensures.state_after, c.operate_on.ensures.answer_after))
