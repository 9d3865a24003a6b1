-- `scene::words::without` meets its contract: the digits that b lacks are kept. Assumes nothing.
use native.Mathlib.Omega.{arith}
use Rattle.scene.proofs.Digits.{without_of}
use Rattle.scene.proofs.words.without.Goals as goal

pub returns : goal.returns
returns c = without_of c.args.a c.args.b (omega arith) (omega arith)
