use Rattle.std.proofs.Common.{length}
use Rattle.check_report.proofs.check.text.+put_cell.Given as goal

abbrev pub decreases-put_cell : goal.decreases-put_cell
decreases-put_cell g l = length l.columns.now
