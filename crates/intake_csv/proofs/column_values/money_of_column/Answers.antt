use Rattle.feel_tests.specs.declared.value.Value.TheVariants.{Number}
use Rattle.intake_csv.specs.declared.column.Content.TheVariants.{Money}
use Rattle.intake_csv.proofs.ColumnValues.{read-under}
use Rattle.intake_csv.proofs.column_values.money_of_column.Goals as goal

pub returns : goal.returns
returns c =
    rw c.ok.ensures.value (read-under Number c.args.row.now c.args.column Money c.in-Ok.text.now c.read_money.result c.requires.content c.in-Ok.ensures.text c.read_money.ensures)
