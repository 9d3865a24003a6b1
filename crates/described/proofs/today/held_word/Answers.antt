-- `described::today::held_word` meets its contract: the object is no descriptor, it is inactive, or the value that it
-- holds exists. Assumes nothing.
use mathlib.Core.Bool.{false≢true}
use mathlib.Core.Path.{sym, ◌∙◌}
use native.Mathlib.Omega.{arith}
use Rattle.state.specs.Shown.{shown}
use Rattle.model.proofs.Lists.{not-true}
use Rattle.scene.proofs.Ranges.{starts_of, starts_not, starts_holds}
use Rattle.described.proofs.Describing.{held_none, held_one}
use Rattle.described.proofs.today.held_word.Goals as goal

pub returns-then-not-is_descriptor : goal.returns-then-not-is_descriptor
returns-then-not-is_descriptor c =
    held_none _ _ _
    (not-true _ (λ e. false≢true (sym c.if-not-is_descriptor.true ∙ (c.is_descriptor.ensures ∙ starts_holds _ _ _ e))))

pub returns-then-object_in-eq0 : goal.returns-then-object_in-eq0
returns-then-object_in-eq0 c =
    held_none _ _ _ (not-true _ (starts_not _ _ _ _ c.object_in.ensures c.if-object_in-eq0.true))

pub power-requires : goal.power-requires
power-requires c =
    omega (
      arith,
      c.from.ensures,
      c.held_by.ensures,
      c.requires.area_ok.held_known c.args.o c.requires.object
          (sym c.is_descriptor.ensures ∙ c.if-not-is_descriptor.false),
      c.requires.area_ok.few-values,
    )

pub returns : goal.returns
returns c =
    held_one c.args.config.now.objects.kind (shown c.args.area.now) c.args.o _ _
    (starts_of _ _ _ _ c.object_in.ensures (sym c.is_descriptor.ensures ∙ c.if-not-is_descriptor.false)
    c.if-object_in-eq0.false)
    (c.from.ensures ∙ c.held_by.ensures) c.power.ensures
