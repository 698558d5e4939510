use Rattle.std.proofs.Common.{rules}
use Rattle.value_command.proofs.error_line.report_error.Goals as goal

pub returns-clause-status : goal.returns-clause-status
returns-clause-status g c = search rules
