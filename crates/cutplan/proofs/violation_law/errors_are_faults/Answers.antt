use Rattle.cutplan.proofs.ViolationFaults.{errors_are_faults}
use Rattle.cutplan.proofs.violation_law.errors_are_faults.Goals as goal

pub returns : goal.returns
returns c = errors_are_faults
