-- `state::look::right_length` meets its contract: the length is compared with the one needed. Assumes nothing.
use mathlib.Core.Path.{ap}
use lib.ListN.{length}
use lib.Dec.{eqb}
use Rattle.state.proofs.look.right_length.Goals as goal

pub returns : goal.returns
returns c = ap (λ n. eqb (length c.args.area.now) n) c.area_length.ensures
