-- `varint::has_last` meets its contract: what is found among the bytes so far. Assumes nothing.
use Rattle.std.proofs.Common.{rules, ◌≡◌, ltb, false}
use Rattle.std.specs.List.{list_any}
use Rattle.std.proofs.Common.{refl, ◌||◌, ◌∙◌}
use Rattle.std.proofs.iter.Yields.{fronts}
use Rattle.std.proofs.lemmas.Iterator.{YieldsList-from_slice}
use Rattle.std.proofs.lemmas.Fn.{fold_over}
use Rattle.varint.proofs.Runs.{any_more}
use Rattle.varint.proofs.has_last.Goals as goal

pub returns : goal.returns
returns c =
    fold_over fronts (λ y. y.now) _ (λ ys found. found ≡ list_any (λ b. ltb b 128) ys) _
    (λ ys a x b f' j k. (
      let e : b ≡ (a || ltb x.now 128) = search rules in
          e ∙ rw j (any_more (λ b. ltb b 128) ys x.now),
      search rules,
    ))
    c.iter.result c.args.run.now false c.fold.result
    (YieldsList-from_slice {s = c.iter.result} c.args.run.now cc).runs refl c.fold.ensures.ran
