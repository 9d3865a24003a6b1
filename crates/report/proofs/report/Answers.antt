-- `report::report` meets its contract: one law for each way out. Assumes nothing.
use Rattle.report.proofs.Reporting
use Rattle.report.proofs.report.Goals as goal

pub returns-then-line-gt-MOST_FILE : goal.returns-then-line-gt-MOST_FILE
returns-then-line-gt-MOST_FILE c =
    Reporting.too-long c.args.line.now c.args.session.now c.args.out.now c.then-line-gt-MOST_FILE.either
    c.put_long.ensures

pub returns-then-refusal-ne0 : goal.returns-then-refusal-ne0
returns-then-refusal-ne0 c =
    Reporting.refused c.args.line.now c.args.session.now
    c.args.out.now c.if-line-gt-MOST_FILE.false c.if-session-gt-MOST_SESSION.false _
    c.gate_load_check-refusal.ensures c.if-refusal-ne0.true c.put_line.ensures

pub put_session-requires : goal.put_session-requires
put_session-requires c =
    Reporting.accepted-file _ c.gate_load_check-refusal.ensures c.if-refusal-ne0.false

pub returns : goal.returns
returns c =
    Reporting.accepted c.args.line.now c.args.session.now
    c.args.out.now c.if-line-gt-MOST_FILE.false c.if-session-gt-MOST_SESSION.false _
    c.gate_load_check-refusal.ensures c.if-refusal-ne0.false c.put_session.ensures
