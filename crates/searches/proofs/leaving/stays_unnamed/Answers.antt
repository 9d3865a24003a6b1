-- `searches::leaving::stays_unnamed` meets its contract: nothing is deactivated, the zone does not let the objects
-- concerned go, or their table is searched for. Assumes nothing.
use mathlib.Core.Bool.{true}
use mathlib.Core.Path.{◌≡◌, ◌∙◌, sym}
use Rattle.state.specs.Shown.{shown}
use Rattle.searches.specs.Asking.{leaves}
use Rattle.searches.proofs.Readying
use Rattle.searches.proofs.Unnamed
use Rattle.searches.proofs.leaving.stays_unnamed.Goals as goal
use Rattle.searches.proofs.leaving.stays_unnamed.Goals.{After-zone_lets_go}

-- what the zone's answer says
stricter : (c : After-zone_lets_go) → (leaves c.args.f ≡ true)
    × (c.zone_lets_go.result ≡ Unnamed.stricter c.args.config.now (shown c.args.area.now) c.args.op.now c.args.a)
stricter c =
    let l : leaves c.args.f ≡ true = sym c.is_leaving.ensures ∙ c.if-not-is_leaving.false in (
      l,
      Unnamed.zone_stricter _ _ _ _ _ _ c.requires.ready c.requires.asked l c.requires.a_value _
          c.mark_concerned-table.ensures c.zone_of.ensures c.zone_lets_go.ensures,
    )

pub returns-then-not-is_leaving : goal.returns-then-not-is_leaving
returns-then-not-is_leaving c = Unnamed.q20_free _ _ _ _ _ (sym c.is_leaving.ensures ∙ c.if-not-is_leaving.true)

pub mark_concerned-table-requires-clause-objects_le_most_objects :
    goal.mark_concerned-table-requires-clause-objects_le_most_objects
mark_concerned-table-requires-clause-objects_le_most_objects c = Readying.few-objects _ _ _ _ _ _ c.requires.ready
    c.requires.asked

pub mark_concerned-table-requires-clause-in_table : goal.mark_concerned-table-requires-clause-in_table
mark_concerned-table-requires-clause-in_table c = λ e. Readying.small_of _ _ _ _ _ _ c.requires.ready c.requires.asked
    (Unnamed.leaves_is _ (sym c.is_leaving.ensures ∙ c.if-not-is_leaving.false))

pub returns-else-zone_lets_go : goal.returns-else-zone_lets_go
returns-else-zone_lets_go c =
    let (l, e) = stricter (goal.at.returns-else-zone_lets_go c).After-zone_lets_go in
    c.if-zone_lets_go.false ∙ Unnamed.q20_clings _ _ _ _ _ l e c.if-zone_lets_go.false

pub returns-then-zone_lets_go : goal.returns-then-zone_lets_go
returns-then-zone_lets_go c =
    let (l, e) = stricter (goal.at.returns-then-zone_lets_go c).After-zone_lets_go in
    Unnamed.q20-table _ _ _ _ _ l e c.if-zone_lets_go.true _ c.mark_concerned-table.ensures c.left_out.ensures
    c.is_unnamed.ensures
