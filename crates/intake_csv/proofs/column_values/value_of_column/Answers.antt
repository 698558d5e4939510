use Rattle.std.proofs.Common.{subst}
use Rattle.feel_tests.specs.declared.kind.Kind.{Kind}
use Rattle.feel_tests.specs.declared.value.Value.{Value}
use Rattle.intake_csv.specs.Fields.{IsFieldRead}
use Rattle.intake_csv.specs.declared.column.Content.TheVariants.{Plain}
use Rattle.intake_csv.proofs.ColumnValues.{read-under}
use Rattle.intake_csv.proofs.column_values.value_of_column.Goals as goal

pub returns : goal.returns
returns c =
    let text = c.in-Ok.text.now in
    let read = c.in_ok-read_of_kind.field-0 in
    let value_of : Value → Value = λ value. value in
    let has = subst (λ (kind : Kind). IsFieldRead value_of (Plain kind) text read) c.kind.ensures c.in_ok-read_of_kind.ensures in
    rw c.ok.ensures.value (read-under value_of c.args.row.now c.args.column (Plain _) text read c.requires.plain c.in-Ok.ensures.text has)
