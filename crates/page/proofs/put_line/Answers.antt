-- `page::put_line` meets its contract: the word, the number and the newline. Assumes nothing.
use Rattle.model.specs.Office.{decimal}
use mathlib.Core.List.{[], ◌∷◌}
use Rattle.page.proofs.Laying.{then}
use Rattle.page.proofs.put_line.Goals as goal

pub returns : goal.returns
returns c =
    let out = c.args.out.now in
    let n = c.args.refusal in
    then 0 out (108 ∷ 105 ∷ 110 ∷ 101 ∷ 32 ∷ decimal n) (10 ∷ [])
    (then 0 out (108 ∷ 105 ∷ 110 ∷ 101 ∷ 32 ∷ []) (decimal n) c.put_all-word.ensures c.put_decimal-number.ensures)
    c.put.ensures
