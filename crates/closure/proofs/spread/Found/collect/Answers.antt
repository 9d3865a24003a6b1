-- `closure::spread::Found::collect` meets its contract: the pair is there already, or its value is given to the
-- readers. Assumes nothing.
use lib.Bits.{bit_or}
use lib.ListN.{get_or, set}
use mathlib.Core.Path.{◌≡◌, subst}
use Prim.Native.Nat.{ℕ}
use native.Mathlib.Omega.{arith}
use Rattle.closure.specs.Words.{Added}
use Rattle.closure.proofs.Giving.{grew_collect, added_old, added_some}
use Rattle.closure.proofs.spread.Found.collect.Goals as goal

pub returns-then-y-x-clause-added : goal.returns-then-y-x-clause-added
returns-then-y-x-clause-added c =
    added_old c.args.writing c.args.o _ c.args.self.now.known
    (subst (λ (g : ℕ). bit_or (get_or c.args.self.now.known c.args.o 0) g ≡ get_or c.args.self.now.known c.args.o 0)
    c.power.ensures c.if-y-x.true)

pub returns-clause-grew : goal.returns-clause-grew
returns-clause-grew c =
    grew_collect c.args.self.now.known c.args.o (omega arith) c.args.w c.power.result c.power.ensures c.give.ensures

pub returns-clause-added : goal.returns-clause-added
returns-clause-added c =
    let k = c.args.self.now.known in
    subst (λ (g : ℕ). Added c.args.writing c.args.o g k (set k c.args.o (bit_or (get_or k c.args.o 0) c.power.result)))
    c.power.ensures
    (added_some k c.args.o (omega arith) c.args.writing c.power.result c.if-not-writing.false)
