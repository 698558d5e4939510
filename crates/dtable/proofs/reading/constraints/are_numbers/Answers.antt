use Rattle.std.proofs.Common.{refl, sym, ◌∙◌}
use Rattle.feel_tests.specs.declared.kind.Kind.TheVariants as kinds
use Rattle.tables.specs.Plan.{same_kind}
use Rattle.tables.specs.declared.table.Output.{Output}
use Rattle.tables.proofs.Searches.{all_more, all_failed, all_passed}
use Rattle.dtable.proofs.reading.constraints.are_numbers.Goals as goal

pub loop-output-init : goal.loop-output-init
loop-output-init c = refl

pub loop-output-preserved : goal.loop-output-preserved
loop-output-preserved c =
    all_more (λ (o : Output). same_kind o.kind kinds.Number) c.args.outputs.now c.loop-output.output-index c.output-item.result c.loop-output-test.true c.output-item.is c.loop-output.invariant (sym c.is_number.ensures ∙ c.if-not-is_number.false)

pub returns-then-not-is_number : goal.returns-then-not-is_number
returns-then-not-is_number c =
    all_failed (λ (o : Output). same_kind o.kind kinds.Number) c.args.outputs.now c.loop-output.output-index c.output-item.result c.loop-output-test.true c.output-item.is (sym c.is_number.ensures ∙ c.if-not-is_number.true)

pub returns : goal.returns
returns c = all_passed (λ (o : Output). same_kind o.kind kinds.Number) c.args.outputs.now c.loop-output.output-index c.loop-output-test.false c.loop-output.invariant
