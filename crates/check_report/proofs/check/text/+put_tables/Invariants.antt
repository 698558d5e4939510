use Rattle.std.proofs.Common.{length}
use Rattle.check_report.proofs.check.text.+put_tables.Given as goal

abbrev pub decreases-put_tables : goal.decreases-put_tables
decreases-put_tables g l = length l.tables.now
