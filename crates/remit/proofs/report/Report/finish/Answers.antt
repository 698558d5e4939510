use Rattle.std.proofs.Common.{rules}
use Rattle.remit.proofs.report.Report.finish.Goals as goal

pub returns-clause-writes : goal.returns-clause-writes
returns-clause-writes g c = search rules

pub returns-clause-all : goal.returns-clause-all
returns-clause-all g c = search rules
