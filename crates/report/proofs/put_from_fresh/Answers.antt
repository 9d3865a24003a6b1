-- `report::put_from_fresh` meets its contract: the rows from a fresh state on. Assumes nothing.
use Rattle.report.proofs.Reporting
use Rattle.report.proofs.put_from_fresh.Goals as goal

pub returns : goal.returns
returns c =
    Reporting.from_fresh c.args.line.now c.args.session.now c.args.out.now c.args.area.now _
    c.requires c.gate_fresh.ensures.1 c.put_rows.ensures.0
