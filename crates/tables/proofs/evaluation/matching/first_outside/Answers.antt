use Rattle.std.proofs.Common.{position, ap, sym, ◌∙◌, arith}
use Rattle.tables.specs.Matching.{is_outside}
use Rattle.tables.proofs.Searches.{position_more, position_found, position_missing}
use Rattle.tables.proofs.evaluation.matching.first_outside.Goals as goal

pub loop-column-init : goal.loop-column-init
loop-column-init c k d below = absurd (omega arith)

pub loop-column-preserved : goal.loop-column-preserved
loop-column-preserved c =
    position_more (is_outside c.args.given.now c.args.earlier.now) c.as_slice-inputs.result.now c.loop-column.column c.index-inputs-column.result c.loop-column-test.true c.index-inputs-column.is c.loop-column.invariant (sym c.is_outside.ensures ∙ c.if-is_outside.false)

pub returns-then-is_outside-clause-value : goal.returns-then-is_outside-clause-value
returns-then-is_outside-clause-value c =
    position_found (is_outside c.args.given.now c.args.earlier.now) c.as_slice-inputs.result.now c.loop-column.column c.index-inputs-column.result c.loop-column-test.true c.index-inputs-column.is c.loop-column.invariant (sym c.is_outside.ensures ∙ c.if-is_outside.true)
    ∙ ap (position (is_outside c.args.given.now c.args.earlier.now)) c.as_slice-inputs.ensures

pub returns-clause-value : goal.returns-clause-value
returns-clause-value c =
    position_missing (is_outside c.args.given.now c.args.earlier.now) c.as_slice-inputs.result.now c.loop-column.column c.loop-column-test.false c.loop-column.invariant
    ∙ ap (position (is_outside c.args.given.now c.args.earlier.now)) c.as_slice-inputs.ensures
