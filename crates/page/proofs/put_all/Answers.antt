-- `page::put_all` meets its contract: after b-index turns so many bytes are put down. Assumes nothing.
use Prim.Native.Nat.{◌<◌}
use native.Mathlib.Numerals.{add-one}
use lib.Seq.{take-suc}
use lib.ListN.{length, get_or, take}
use mathlib.Core.List.{[], ◌∷◌}
use Rattle.page.proofs.Laying
use Rattle.page.proofs.put_all.Goals as goal

pub loop-b-preserved : goal.loop-b-preserved
loop-b-preserved c =
    let t = c.args.text.now in
    let i = c.loop-b.b-index in
    let h : i < length t = c.loop-b-test.true in
    rw (add-one, take-suc t i 0 h)
    (Laying.then c.args.at c.args.out.now (take i t) (get_or t i 0 ∷ []) c.loop-b.invariant c.put-end.ensures)
