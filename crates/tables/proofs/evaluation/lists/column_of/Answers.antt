use Rattle.std.proofs.lemmas.Grind.{common_steps}
use Rattle.std.proofs.Common.{ℕ, ◌++◌, get_or, slice_get, ap, sym, ◌∙◌, arith}
use Rattle.std.specs.Option.{option_to_list}
use Rattle.tables.specs.Priority.{entries_of}
use Rattle.tables.proofs.Steps.{filter_map_more}
use Rattle.tables.proofs.evaluation.lists.column_of.Goals as goal

pub loop-rule-preserved : goal.loop-rule-preserved
loop-rule-preserved c =
    let rules = c.args.rules.now in
    let i = c.loop-rule.rule-index in
    let entry = λ (rule : ℕ). slice_get (entries_of c.args.table.now rule) c.args.column in
    c.in_ok-push_entry.ensures ∙ ap (λ values. values ++ option_to_list (entry (get_or rules i 0))) c.loop-rule.invariant ∙ sym (filter_map_more entry rules i 0 c.loop-rule-test.true)

pub returns : goal.returns
returns c = grind (arith, common_steps)
