-- The rows of a file, written after another text.
use Rattle.std.specs.Prelude.{◌++◌, ℕ, List}
use Rattle.std.specs.Global.{Vec}
use Rattle.std.specs.List.{AllZip}
use Rattle.csv.specs.declared.writer.Writer.{Writer}
use Rattle.intake_csv.specs.Records.{Fields}
use Rattle.tables.specs.Plan.{PlanParts}
use Rattle.plan_rows.specs.declared.columns.Column.{Column}
use Rattle.plan_rows.specs.Sheet.{HasText, text_of}
use Rattle.plan_rows.specs.ValuedRows.{IsValued}

-- all rows are written after a text
pub record HasWrittenAll (plan : PlanParts) (columns : List Column) (rows : List Fields) (text : List ℕ) (writer : Writer (Vec ℕ)) : Type 0 where
  pub records : List Fields
  pub valued : AllZip (IsValued plan columns) rows records
  pub written : HasText writer (text ++ text_of records)
