use Rattle.std.proofs.Common.{length}
use Rattle.check_report.proofs.check.report.+push_columns.Given as goal

abbrev pub decreases-push_columns : goal.decreases-push_columns
decreases-push_columns l = length l.columns.now
