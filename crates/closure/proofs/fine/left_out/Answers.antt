-- `closure::fine::left_out` meets its contract: one digit or none. Assumes nothing.
use native.Mathlib.Omega.{arith}
use Rattle.closure.proofs.Finding.{left_none, left_one, left-all}
use Rattle.closure.proofs.fine.left_out.Goals as goal

pub returns-in-1-to-64-clause-by_index : goal.returns-in-1-to-64-clause-by_index
returns-in-1-to-64-clause-by_index c = left_one c.args.but c.power.result (omega arith) c.power.ensures

pub returns-in-1-to-64-clause-by_index_2 : goal.returns-in-1-to-64-clause-by_index_2
returns-in-1-to-64-clause-by_index_2 c = λ n e h. left-all c.args.but c.power.result c.power.ensures n e

pub returns-in_default-clause-by_index : goal.returns-in_default-clause-by_index
returns-in_default-clause-by_index c = left_none c.args.but

pub returns-in_default-2-clause-by_index : goal.returns-in_default-2-clause-by_index
returns-in_default-2-clause-by_index c = left_none c.args.but
