use Rattle.std.proofs.Common.{is_some, refl, sym, ◌∙◌}
use Rattle.tables.specs.declared.table.Output.{Output}
use Rattle.tables.proofs.Searches.{any_more, any_found, any_missing}
use Rattle.dtable.proofs.reading.constraints.are_ranked.Goals as goal

pub loop-output-init : goal.loop-output-init
loop-output-init c = refl

pub loop-output-preserved : goal.loop-output-preserved
loop-output-preserved c =
    any_more (λ (o : Output). is_some o.priority) c.args.outputs.now c.loop-output.output-index c.output-item.result c.loop-output-test.true c.output-item.is c.loop-output.invariant (sym c.is_some.ensures ∙ c.if-is_some.false)

pub returns-then-is_some : goal.returns-then-is_some
returns-then-is_some c = any_found (λ (o : Output). is_some o.priority) c.args.outputs.now c.loop-output.output-index c.output-item.result c.loop-output-test.true c.output-item.is (sym c.is_some.ensures ∙ c.if-is_some.true)

pub returns : goal.returns
returns c = any_missing (λ (o : Output). is_some o.priority) c.args.outputs.now c.loop-output.output-index c.loop-output-test.false c.loop-output.invariant
