use Rattle.std.proofs.Common.{rules}
use Rattle.evaluation.proofs.stop.ValueStop.status.Goals as goal

pub returns-in-Tables : goal.returns-in-Tables
returns-in-Tables c = search rules
