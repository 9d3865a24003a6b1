-- `gate::state_bytes` meets its contract: the file is refused, or its line's area has a length. Assumes nothing.
use Rattle.std.proofs.lemmas.Result.{err_from_is_err_and}
use Rattle.gate.proofs.Needed
use Rattle.gate.proofs.state_bytes.Goals as goal

pub returns-in_err-config : goal.returns-in_err-config
returns-in_err-config c =
    let p = err_from_is_err_and c.from_residual.result c.from_residual.ensures.1 in
    rw (p.1, p.2) (Needed.needed_refused _ _ c.in_err-config.ensures)

pub area_length-requires : goal.area_length-requires
area_length-requires c = Needed.room_small _ c.room_for.ensures

pub returns : goal.returns
returns c = Needed.needed_length _ _ c.in_ok-config.ensures c.room_for.ensures c.area_length.ensures
