-- `varint::decode` meets its contract: one byte is the law `number_short`, the rest is the callee's. Assumes nothing.
use Rattle.std.proofs.Common.{rules, ◌+◌}
use Rattle.std.proofs.Common.{◌∙◌}
use Rattle.model.proofs.NumberMeans.{means_at}
use Rattle.model.specs.Num.{Got}
use Rattle.varint.proofs.Numbers
use Rattle.varint.proofs.decode.Goals as goal

pub returns-in-Some-clause-value : goal.returns-in-Some-clause-value
returns-in-Some-clause-value c =
    let k = c.in-Some.ensures.lookup in
    Numbers.number_short c.args.s.now c.args.at k.3.0 (c.from.ensures ∙ k.3.1 0)
    (rw c.from.ensures c.if-first-lt128.true)

pub returns-in-Some-clause-result_value : goal.returns-in-Some-clause-result_value
returns-in-Some-clause-result_value c =
    let k = c.in-Some.ensures.lookup in
    means_at c.args.s.now c.args.at (Got c.from.result (c.args.at + 1))
    (Numbers.number_short c.args.s.now c.args.at k.3.0 (c.from.ensures ∙ k.3.1 0)
    (rw c.from.ensures c.if-first-lt128.true))

pub returns-in_default-clause-result_value : goal.returns-in_default-clause-result_value
returns-in_default-clause-result_value c = means_at c.args.s.now c.args.at _ (search rules)
