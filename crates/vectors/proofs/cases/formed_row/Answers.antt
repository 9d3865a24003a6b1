-- `vectors::cases::formed_row`: the room that is chosen is small. Assumes nothing.
use Rattle.gate.proofs.Needed
use Rattle.vectors.proofs.cases.formed_row.Goals as goal

pub area_length-requires : goal.area_length-requires
area_length-requires c = Needed.room_small _ c.room_for-room.ensures
