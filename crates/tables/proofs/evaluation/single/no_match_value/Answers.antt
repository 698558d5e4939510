use Rattle.std.proofs.lemmas.Grind.{common_steps}
use Rattle.std.proofs.Common.{◌++◌, take, ap, sym, ◌∙◌, arith}
use Rattle.std.specs.List.{filter_map}
use Rattle.std.specs.Option.{option_to_list}
use Rattle.tables.specs.declared.table.Output.{Output}
use Rattle.tables.specs.HitPolicy.{ones}
use Rattle.tables.proofs.Steps.{ones_more}
use Rattle.tables.proofs.evaluation.single.no_match_value.Goals as goal

pub loop-output-preserved : goal.loop-output-preserved
loop-output-preserved c =
    let outputs = c.as_slice-outputs.result.now in
    let i = c.loop-output.output-index in
    let output = c.output-item.result in
    let before = ones (filter_map (λ (o : Output). o.fallback) (take i outputs)) in
    c.in_ok-push_default.ensures ∙ ap (λ answers. answers ++ ones (option_to_list output.fallback)) c.loop-output.invariant
    ∙ ap (λ (o : Output). before ++ ones (option_to_list o.fallback)) c.output-item.is ∙ sym (ones_more (λ (o : Output). o.fallback) outputs i output c.loop-output-test.true)

pub returns : goal.returns
returns c = grind (arith, common_steps)
