-- `state::formed::statuses_formed` meets its contract: a law for each way out. Assumes nothing.
use native.Mathlib.Omega.{arith}
use mathlib.Core.Path.{sym, ◌∙◌}
use lib.ListN.{take, length-take}
use Rattle.std.proofs.lemmas.Iterator.{YieldsList-from_slice}
use Rattle.std.proofs.lemmas.Iterator.Consumers.{YieldsList-from_copied, max_from_yields_List}
use Rattle.std.proofs.lemmas.Iterator.Adapters.{option_map_id}
use Rattle.model.specs.State.{partition_count}
use Rattle.state.proofs.Forms.{status-first, status-rest}
use Rattle.state.proofs.formed.statuses_formed.Goals as goal

pub slice_bounds-statuses-end : goal.slice_bounds-statuses-end
slice_bounds-statuses-end c = simp length-take (omega (arith, c.args.area.now.sized))

pub returns-then-status-eq0 : goal.returns-then-status-eq0
returns-then-status-eq0 c =
    status-rest c.args.area.now.room c.args.area.now.bytes.now c.status.result c.unwrap_or.result c.max.result
    c.args.area.now.sized c.status.ensures c.if-status-eq0.true
    (sym (option_map_id _) ∙ max_from_yields_List c.copied.result _ c.max.ensures.ran
    (YieldsList-from_copied (YieldsList-from_slice (take partition_count c.args.area.now.bytes.now) cc)))
    c.unwrap_or.ensures

pub returns-else-status-eq0 : goal.returns-else-status-eq0
returns-else-status-eq0 c = search status-first
