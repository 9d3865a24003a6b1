-- `report::report_whole` meets its contract: every text fits. Assumes nothing.
use Rattle.model.specs.Office.{most_text}
use lib.ListN.{length}
use mathlib.Core.Path.{◌≡◌}
use Rattle.report.proofs.Reporting
use borrow.Author.Rules.{rules}
use Rattle.report.proofs.report_whole.Goals as goal

pub returns-clause-value : goal.returns-clause-value
returns-clause-value c = let a = c.args in let room : length a.out.now ≡ most_text =
    search rules in Reporting.counted a.line.now a.session.now a.out.now room c.report.ensures

pub returns-clause-out_after : goal.returns-clause-out_after
returns-clause-out_after c = let a = c.args in let room : length a.out.now ≡ most_text =
    search rules in Reporting.whole a.line.now a.session.now a.out.now room c.report.ensures

pub returns-clause-counts : goal.returns-clause-counts
returns-clause-counts c = let a = c.args in let room : length a.out.now ≡ most_text =
    search rules in Reporting.counts a.line.now a.session.now a.out.now room c.report.ensures
