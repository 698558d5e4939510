use Rattle.std.proofs.Common.{rules}
use Rattle.console.proofs.exit_status.usage.Goals as goal

pub returns-in-Ok-clause-fault : goal.returns-in-Ok-clause-fault
returns-in-Ok-clause-fault g c = search rules
