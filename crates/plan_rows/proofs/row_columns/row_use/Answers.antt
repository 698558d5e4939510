use Rattle.plan_rows.specs.RowColumns.{carried_use}
use Rattle.plan_rows.proofs.HeaderColumns.{use_given, use_other}
use Rattle.plan_rows.proofs.row_columns.row_use.Goals as goal

pub returns-in-Some : goal.returns-in-Some
returns-in-Some c =
    let looked = rw c.names.ensures.names at c.place_of.ensures in
    use_given c.args.plan.now c.args.name.now (carried_use c.args.plan.now c.args.name.now) _ looked c.in-Some.place c.in-Some.is

pub returns-in-None : goal.returns-in-None
returns-in-None c =
    let looked = rw c.names.ensures.names at c.place_of.ensures in
    use_other c.args.plan.now c.args.name.now (carried_use c.args.plan.now c.args.name.now) _ looked _ c.in-None.is c.carried_use.ensures
