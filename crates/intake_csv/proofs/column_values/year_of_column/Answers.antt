use Rattle.std.proofs.Common.{ℕ}
use Rattle.feel_tests.specs.Calendar.{year_text}
use Rattle.feel_tests.specs.declared.value.Value.TheVariants.{Text}
use Rattle.intake_csv.specs.declared.column.Content.TheVariants.{Year}
use Rattle.intake_csv.proofs.ColumnValues.{read-under}
use Rattle.intake_csv.proofs.column_values.year_of_column.Goals as goal

pub returns-clause-read : goal.returns-clause-read
returns-clause-read c =
    rw c.ok.ensures.value
    (read-under (λ (year : ℕ). Text (year_text year)) c.args.row.now c.args.column Year c.in-Ok.text.now c.read_year.result c.requires.content c.in-Ok.ensures.text c.read_year.ensures.read)
