-- `closure::begin::value_of` meets its contract: the object is inactive, or the value that it holds exists. Assumes
-- nothing.
use mathlib.Core.Path.{◌∙◌}
use Rattle.state.specs.Shown.{shown}
use Rattle.closure.proofs.Starting.{value_none, value_one}
use Rattle.scene.proofs.Ranges.{starts_of, starts_not}
use Rattle.closure.proofs.begin.value_of.Goals as goal

pub returns-then-object_in-eq0 : goal.returns-then-object_in-eq0
returns-then-object_in-eq0 c =
    value_none c.args.config.now (shown c.args.area.now) c.args.o
    (starts_not c.args.config.now.objects.kind (shown c.args.area.now) c.args.o _ c.object_in.ensures
    c.if-object_in-eq0.true)

pub returns : goal.returns
returns c =
    value_one c.args.config.now (shown c.args.area.now) c.args.o c.from.result c.power.result
    (starts_of c.args.config.now.objects.kind (shown c.args.area.now) c.args.o _ c.object_in.ensures c.requires.holds
    c.if-object_in-eq0.false)
    (c.from.ensures ∙ c.held_by.ensures)
    (c.requires.area_ok.held_known c.args.o c.requires.object c.requires.holds) c.power.ensures
