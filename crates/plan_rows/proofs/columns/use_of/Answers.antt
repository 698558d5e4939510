use Rattle.plan_rows.specs.Columns.{expected_use}
use Rattle.plan_rows.proofs.HeaderColumns.{use_given, use_other}
use Rattle.plan_rows.proofs.columns.use_of.Goals as goal

pub returns-in-Some : goal.returns-in-Some
returns-in-Some c =
    let looked = rw (c.names.ensures.names, c.as_bytes.ensures.value) at c.place_of.ensures in
    use_given c.args.plan.now c.args.name.now (expected_use c.args.plan.now c.args.name.now) _ looked c.in-Some.place c.in-Some.is

pub returns-in-None : goal.returns-in-None
returns-in-None c =
    let looked = rw (c.names.ensures.names, c.as_bytes.ensures.value) at c.place_of.ensures in
    use_other c.args.plan.now c.args.name.now (expected_use c.args.plan.now c.args.name.now) _ looked _ c.in-None.is c.expected_use.ensures
