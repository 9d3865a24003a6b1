-- `scene::words::has` meets its contract: the lowest digit of the shifted word. Assumes nothing.
use lib.Dec.{eqb}
use mathlib.Core.Path.{ap}
use Prim.Native.Nat.{ℕ}
use Rattle.scene.proofs.Digits.{bit_at}
use Rattle.scene.proofs.words.has.Goals as goal

pub returns : goal.returns
returns c = ap (λ (n : ℕ). eqb n 1) (bit_at c.args.x c.args.k)
