-- `closure::fine::parts` meets its contract: only devices below c are in, each in its partition. Assumes nothing.
use lib.ListN.{length-set}
use mathlib.Core.Path.{refl, ◌∙◌}
use native.Mathlib.Omega.{arith}
use Rattle.state.specs.Shown.{shown}
use Rattle.closure.proofs.Finding.{parts_more, parts_none}
use Rattle.closure.proofs.fine.parts.Goals as goal

pub loop-c-init : goal.loop-c-init
loop-c-init c = (refl, parts_none (shown c.args.area.now) 256)

pub loop-c-preserved : goal.loop-c-preserved
loop-c-preserved c =
    let b = c.loop-c in (
      length-set b.t _ _ ∙ b.invariant.0,
      parts_more (shown c.args.area.now) b.t c.from-p.result b.c c.power.result (omega arith) b.auto.c c.power.ensures
          (c.from-p.ensures ∙ c.device_in.ensures) b.invariant.1,
    )
