use Rattle.std.proofs.Common.{sym, ◌∙◌, arith}
use Rattle.std.specs.Str.{bytes_eq}
use Rattle.tables.specs.declared.table.Output.{Output}
use Rattle.tables.proofs.Searches.{position_more, position_found, position_missing}
use Rattle.dtable.proofs.reading.scope.output_column.Goals as goal

pub loop-column-init : goal.loop-column-init
loop-column-init c k d below = absurd (omega arith)

pub loop-column-preserved : goal.loop-column-preserved
loop-column-preserved c =
    let tested = sym c.eq.ensures ∙ c.if-eq.false in
    position_more (λ (x : Output). bytes_eq x.name c.args.name.now) c.args.outputs.now c.loop-column.column c.index-outputs-column.result c.loop-column-test.true c.index-outputs-column.is c.loop-column.invariant (rw c.as_str.ensures.text at tested)

pub returns-then-eq : goal.returns-then-eq
returns-then-eq c =
    let tested = sym c.eq.ensures ∙ c.if-eq.true in
    position_found (λ (x : Output). bytes_eq x.name c.args.name.now) c.args.outputs.now c.loop-column.column c.index-outputs-column.result c.loop-column-test.true c.index-outputs-column.is c.loop-column.invariant (rw c.as_str.ensures.text at tested)

pub returns : goal.returns
returns c = position_missing (λ (x : Output). bytes_eq x.name c.args.name.now) c.args.outputs.now c.loop-column.column c.loop-column-test.false c.loop-column.invariant
