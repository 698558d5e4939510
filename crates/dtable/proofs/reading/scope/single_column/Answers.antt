use Rattle.std.proofs.Common.{◌≡◌, ◌∙◌, sym, true}
use Rattle.tables.specs.Plan.{gives_one}
use Rattle.dtable.proofs.ReadNames.{position-listed, position-given}
use Rattle.dtable.proofs.reading.scope.single_column.Goals as goal

pub returns-then-not-gives_one : goal.returns-then-not-gives_one
returns-then-not-gives_one c = position-listed c.args.name.now c.args.table.now (sym c.gives_one.ensures ∙ c.if-not-gives_one.true)

pub returns : goal.returns
returns c =
    let t = c.args.table.now in
    let one : gives_one t.hit ≡ true = sym c.gives_one.ensures ∙ c.if-not-gives_one.false in
    rw c.as_slice.ensures at c.output_column.ensures ∙ position-given c.args.name.now t one
