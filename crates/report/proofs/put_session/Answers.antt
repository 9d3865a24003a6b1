-- `report::put_session` meets its contract: the area that is lent has the length that the line needs. Assumes nothing.
use mathlib.Core.Path.{refl}
use Rattle.report.proofs.Reporting
use Rattle.report.proofs.put_session.Goals as goal

pub slice_bounds-area-end : goal.slice_bounds-area-end
slice_bounds-area-end c =
    Reporting.area-fits _ c.requires _ c.gate_state_bytes-n.ensures

pub slice_bounds-put_from_fresh-end : goal.slice_bounds-put_from_fresh-end
slice_bounds-put_from_fresh-end c =
    Reporting.area-lent _ c.requires _ c.gate_state_bytes-n.ensures _ refl

pub put_from_fresh-requires : goal.put_from_fresh-requires
put_from_fresh-requires c =
    Reporting.area-blank _ c.requires _ c.gate_state_bytes-n.ensures _ refl
