-- `varint::near_lead` meets its contract: the first bytes are searched for the last one. Assumes nothing.
use Rattle.std.proofs.Common.{rules, tests, ltb}
use Rattle.model.specs.Number.{most_bytes}
use Rattle.std.proofs.lemmas.Iterator.{YieldsList-from_slice, YieldsList-from_take}
use Rattle.std.proofs.lemmas.Iterator.Search.{position_from_yields_List}
use Rattle.varint.proofs.Numbers.{near}
use Rattle.varint.proofs.near_lead.Goals as goal

pub returns : goal.returns
returns c =
    near c.args.s.now (position_from_yields_List (λ b. ltb b 128) _ _ _ c.position.ensures.ran
    (YieldsList-from_take most_bytes (YieldsList-from_slice c.args.s.now cc) cc)
    (λ x b q k. search (rules, tests)))
