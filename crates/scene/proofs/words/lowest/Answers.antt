-- `scene::words::lowest` meets its contract: the trailing zeros of a word that is not 0. Assumes nothing.
use native.Mathlib.Omega.{arith}
use Rattle.scene.proofs.Digits.{lowest_bit, lowest_below}
use Rattle.scene.proofs.words.lowest.Goals as goal

pub overflow_cast-result : goal.overflow_cast-result
overflow_cast-result c = record { fits = omega (arith, lowest_below c.args.w (omega arith) c.requires) }

pub returns-clause-upper_bound : goal.returns-clause-upper_bound
returns-clause-upper_bound c = lowest_below c.args.w (omega arith) c.requires

pub returns-clause-result_value : goal.returns-clause-result_value
returns-clause-result_value c = lowest_bit c.args.w (omega arith) c.requires
