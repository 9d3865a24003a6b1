-- `closure::fine::inside` meets its contract: the devices of the object's partition, or none. Assumes nothing.
use mathlib.Core.Path.{◌∙◌}
use Rattle.state.specs.Shown.{shown}
use Rattle.closure.proofs.Finding.{fine_hardcoded, fine_inside}
use Rattle.closure.proofs.fine.inside.Goals as goal

pub returns-then-config-o-eq-HARDCODED_KIND : goal.returns-then-config-o-eq-HARDCODED_KIND
returns-then-config-o-eq-HARDCODED_KIND c =
    fine_hardcoded c.args.config.now.objects.kind (shown c.args.area.now) c.args.config.now.counts.devices c.args.o
    c.if-config-o-eq-HARDCODED_KIND.true

pub returns-else-config-o-eq-HARDCODED_KIND : goal.returns-else-config-o-eq-HARDCODED_KIND
returns-else-config-o-eq-HARDCODED_KIND c =
    fine_inside c.args.config.now.objects.kind (shown c.args.area.now) c.args.config.now.counts.devices c.args.o
    c.if-config-o-eq-HARDCODED_KIND.false c.from-p.result c.args.parts.now c.requires.parts
    (c.from-p.ensures ∙ c.object_in.ensures)
