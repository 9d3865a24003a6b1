-- `report::rows::put_row` meets its contract: place, space, answer and newline. Assumes nothing.
use Rattle.report.proofs.Sessions.{row_put}
use Rattle.report.proofs.rows.put_row.Goals as goal

pub returns : goal.returns
returns c =
    row_put c.args.at c.args.out.now c.args.place c.args.n c.put_decimal-p.ensures c.put-s.ensures
    c.put_decimal-a.ensures c.put.ensures
