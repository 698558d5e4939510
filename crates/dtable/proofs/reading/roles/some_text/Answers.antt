use Rattle.std.proofs.Common.{◌&&◌, refl, sym, ◌∙◌}
use Rattle.std.specs.Str.{bytes_eq}
use Rattle.feel_tests.specs.declared.kind.Kind.TheVariants as kinds
use Rattle.tables.specs.Plan.{same_kind}
use Rattle.tables.specs.declared.table.Output.{Output}
use Rattle.tables.proofs.Searches.{any_more, any_found, any_missing}
use Rattle.dtable.proofs.reading.roles.some_text.Goals as goal

pub loop-output-init : goal.loop-output-init
loop-output-init c = refl

pub loop-output-preserved : goal.loop-output-preserved
loop-output-preserved c =
    any_more (λ (o : Output). bytes_eq o.name c.args.name.now && same_kind kinds.Text o.kind) c.args.outputs.now c.loop-output.output-index c.output-item.result c.loop-output-test.true c.output-item.is c.loop-output.invariant (sym c.is_text_named.ensures.named ∙ c.if-is_text_named.false)

pub returns-then-is_text_named-clause-listed : goal.returns-then-is_text_named-clause-listed
returns-then-is_text_named-clause-listed c =
    any_found (λ (o : Output). bytes_eq o.name c.args.name.now && same_kind kinds.Text o.kind) c.args.outputs.now c.loop-output.output-index c.output-item.result c.loop-output-test.true c.output-item.is (sym c.is_text_named.ensures.named ∙ c.if-is_text_named.true)

pub returns-clause-listed : goal.returns-clause-listed
returns-clause-listed c =
    any_missing (λ (o : Output). bytes_eq o.name c.args.name.now && same_kind kinds.Text o.kind) c.args.outputs.now c.loop-output.output-index c.loop-output-test.false c.loop-output.invariant
