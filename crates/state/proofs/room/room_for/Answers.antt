-- `state::room::room_for` meets its contract: the small room or the large one. Assumes nothing.
use mathlib.Core.Path.{sym, ◌∙◌}
use Rattle.model.proofs.Facts.{room_few, room_many}
use Rattle.state.proofs.room.room_for.Goals as goal

pub returns-then-n-le-SMALL_ROOM : goal.returns-then-n-le-SMALL_ROOM
returns-then-n-le-SMALL_ROOM c = c.from.ensures ∙ sym (room_few _ c.if-n-le-SMALL_ROOM.true)

pub returns-else-n-le-SMALL_ROOM : goal.returns-else-n-le-SMALL_ROOM
returns-else-n-le-SMALL_ROOM c = c.from-else-n-le-SMALL_ROOM.ensures ∙ sym (room_many _ c.if-n-le-SMALL_ROOM.false)
