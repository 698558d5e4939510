use Rattle.std.proofs.Common.{sym, ◌∙◌, arith}
use Rattle.std.specs.Str.{bytes_eq}
use Rattle.tables.specs.declared.table.InputData.{InputData}
use Rattle.tables.proofs.Searches.{position_more, position_found, position_missing}
use Rattle.dtable.proofs.reading.scope.data_place.Goals as goal

pub loop-place-init : goal.loop-place-init
loop-place-init c k d below = absurd (omega arith)

pub loop-place-preserved : goal.loop-place-preserved
loop-place-preserved c =
    let tested = sym c.eq.ensures ∙ c.if-eq.false in
    position_more (λ (x : InputData). bytes_eq x.name c.args.name.now) c.args.names.now c.loop-place.place c.index-names-place.result c.loop-place-test.true c.index-names-place.is c.loop-place.invariant (rw c.as_str.ensures.text at tested)

pub returns-then-eq : goal.returns-then-eq
returns-then-eq c =
    let tested = sym c.eq.ensures ∙ c.if-eq.true in
    position_found (λ (x : InputData). bytes_eq x.name c.args.name.now) c.args.names.now c.loop-place.place c.index-names-place.result c.loop-place-test.true c.index-names-place.is c.loop-place.invariant (rw c.as_str.ensures.text at tested)

pub returns : goal.returns
returns c = position_missing (λ (x : InputData). bytes_eq x.name c.args.name.now) c.args.names.now c.loop-place.place c.loop-place-test.false c.loop-place.invariant
