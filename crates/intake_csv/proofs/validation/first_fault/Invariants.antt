use Rattle.std.proofs.Common.{take}
use Rattle.intake_csv.specs.Validated.{AreValidated}
use Rattle.intake_csv.proofs.validation.first_fault.Given as goal

abbrev pub invariant-loop-column : goal.invariant-loop-column
invariant-loop-column l = AreValidated l.line (take l.column-index l.columns) l.first
