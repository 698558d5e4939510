use Rattle.intake_csv.proofs.ValidRecords.{column_validated}
use Rattle.intake_csv.proofs.validation.validate_column.Goals as goal

pub returns-in-Ok : goal.returns-in-Ok
returns-in-Ok c = column_validated c.args.line.now c.args.column c.in-Ok.text.now c.validate_text.result c.in-Ok.ensures.text c.validate_text.ensures
