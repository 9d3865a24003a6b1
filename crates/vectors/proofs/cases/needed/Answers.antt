-- `vectors::cases::needed` meets its contract: no area is longer than the longest. Assumes nothing.
use native.Mathlib.Omega.{arith}
use Rattle.gate.proofs.Needed
use Rattle.vectors.proofs.cases.needed.Goals as goal

pub area_length-requires : goal.area_length-requires
area_length-requires c = Needed.room_small _ c.room_for.ensures

pub returns-clause-least : goal.returns-clause-least
returns-clause-least c = omega (arith, c.area_length.ensures)

pub returns-clause-most : goal.returns-clause-most
returns-clause-most c = omega (arith, c.area_length.ensures, Needed.room_fits _ c.room_for.ensures)
