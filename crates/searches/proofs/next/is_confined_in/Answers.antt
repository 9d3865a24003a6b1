-- `searches::next::is_confined_in` meets its contract: what is searched shows the state that would follow. Assumes
-- nothing.
use mathlib.Core.Path.{◌≡◌, ◌∙◌, sym, ap, subst}
use native.Mathlib.Omega.{arith}
use Rattle.std.proofs.lemmas.List.{take_all}
use Rattle.model.specs.Closure.{confined}
use Rattle.model.specs.Gate.{applied}
use Rattle.model.specs.State.{view}
use Rattle.state.specs.Shown.{shown}
use Rattle.scene.specs.Scene.{Searchable}
use Rattle.searches.proofs.Asking
use Rattle.searches.proofs.Readying
use Rattle.searches.proofs.next.is_confined_in.Goals as goal
use Rattle.searches.proofs.next.is_confined_in.Goals.{After-carry_out}

-- the area that is searched
after : (g : _) (c : After-carry_out g) → view c.args.area.now.room c.carry_out.new.area
    ≡ applied c.args.config.now c.args.op.now (shown c.args.area.now)
after g c =
    Readying.next-view c.args.config.now c.args.op.now c.args.area.now.room c.args.area.now.bytes.now
    (rw (
      c.copy_from_slice.ensures.after,
      take_all c.lent-size.result c.args.area.now.bytes.now (omega (arith, c.lent-size.ensures)),
    ) at c.carry_out.ensures.area_after)

pub crossing-requires : goal.crossing-requires
crossing-requires g c =
    subst (Searchable c.args.config.now c.args.area.now.room)
    (sym (after g (goal.at.crossing-requires g c).After-carry_out)) c.requires.searchable

pub returns : goal.returns
returns g c =
    Asking.none_of 18 _ _ _ c.is_none.ensures (c.crossing.ensures.result_value 19)
    ∙ ap (confined c.args.config.now) (after g (goal.at.returns g c).After-carry_out)
