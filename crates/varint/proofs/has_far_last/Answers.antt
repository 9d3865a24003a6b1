-- `varint::has_far_last` meets its contract: run after run, and one byte below 128 ends what leads. Assumes nothing.
use Rattle.std.proofs.Common.{rules, ltb}
use Rattle.std.proofs.Common.{◌∙◌}
use Rattle.varint.proofs.Runs.{any_chunks}
use Rattle.varint.proofs.Numbers.{lead_any}
use Rattle.varint.proofs.has_far_last.Goals as goal

pub returns : goal.returns
returns c =
    any_chunks _ (λ b. ltb b 128) _ (λ x b q k. (search rules, search rules)) c.chunks.result _ _ c.any.ensures.ran
    ∙ rw (c.chunks.ensures.rest, lead_any)
