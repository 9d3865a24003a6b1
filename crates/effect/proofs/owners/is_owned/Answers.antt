-- `effect::owners::is_owned` meets its contract: the number and the bytes of both columns decide. Assumes nothing.
use mathlib.Core.Path.{◌∙◌}
use Rattle.effect.proofs.Moving.{owned_by_lem}
use Rattle.effect.proofs.owners.is_owned.Goals as goal

pub returns : goal.returns
returns c =
    owned_by_lem c.args.objects c.args.class.now c.args.owner.now _ _ c.args.n
    c.byte_at-c.ensures (c.from-o.ensures ∙ c.byte_at.ensures)
