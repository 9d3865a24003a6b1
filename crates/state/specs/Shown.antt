-- Document 01, 'State area': the state that a lent area shows.
use Rattle.model.specs.State.{State, view}
use Rattle.state.specs.declared.area.Area.{Area}

abbrev pub shown : Area → State
shown a = view a.room a.bytes.now
