-- `gate::make` meets its contract: one law for each way out. Assumes nothing.
use Rattle.std.proofs.lemmas.Result.{err_from_is_err_and}
use Rattle.gate.proofs.Fresh
use Rattle.gate.proofs.Needed
use Rattle.gate.proofs.make.Goals as goal

pub returns-in_err-config : goal.returns-in_err-config
returns-in_err-config c =
    let p = err_from_is_err_and c.from_residual.result c.from_residual.ensures.1 in
    rw (p.1, p.2) (Fresh.file-refused _ _ _ c.in_err-config.ensures)

pub right_length-requires : goal.right_length-requires
right_length-requires c = Needed.room_small _ c.room_for-room.ensures

pub returns-then-not-right_length : goal.returns-then-not-right_length
returns-then-not-right_length c =
    Fresh.other_length _ _ _ c.in_ok-config.ensures c.room_for-room.ensures c.right_length.ensures
    (c.if-not-right_length.true)

pub returns : goal.returns
returns c =
    Fresh.made _ _ _ c.in_ok-config.ensures c.room_for-room.ensures c.right_length.ensures
    (c.if-not-right_length.false) c.make_fresh.ensures
