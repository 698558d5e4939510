use Rattle.intake_csv.proofs.SomeRow.{file_rows}
use Rattle.intake_csv.proofs.laws.files_have_rows.Goals as goal

pub returns : goal.returns
returns c names text layout records headered_file = file_rows names text layout records headered_file
