-- `gate::first_bad` meets its contract: the file is refused, the area has another length, or the walk decides.
-- Assumes nothing.
use Rattle.std.proofs.lemmas.Result.{err_from_is_err_and}
use Rattle.gate.proofs.Needed
use Rattle.gate.proofs.Found
use Rattle.gate.proofs.first_bad.Goals as goal

pub returns-in_err-config : goal.returns-in_err-config
returns-in_err-config c =
    let p = err_from_is_err_and c.from_residual.result c.from_residual.ensures.1 in
    rw (p.1, p.2) (Found.file-refused _ _ _ c.in_err-config.ensures)

pub right_length-requires : goal.right_length-requires
right_length-requires c = Needed.room_small _ c.room_for-room.ensures

pub returns-then-not-right_length : goal.returns-then-not-right_length
returns-then-not-right_length c =
    Found.length_refused _ _ _ c.in_ok-config.ensures c.room_for-room.ensures
    c.right_length.ensures (c.if-not-right_length.true)

pub returns : goal.returns
returns c =
    Found.place_found _ _ _ c.in_ok-config.ensures c.room_for-room.ensures
    c.right_length.ensures (c.if-not-right_length.false) c.first_bad.ensures
