use Rattle.std.proofs.Common.{◌∷◌, ◌++◌, [], map, ap, sym, ◌∙◌, arith}
use Rattle.std.specs.List.{range_with_len}
use Rattle.std.proofs.lemmas.List.FromFn.{map-range_with_len_more}
use Rattle.cutplan.specs.CompiledAnswers.{answers_of_rules}
use Rattle.cutplan.proofs.compiled_answers.answers_alone.Goals as goal

pub loop-rule-preserved : goal.loop-rule-preserved
loop-rule-preserved c =
    let t = c.args.table.now in
    let rule = c.loop-rule.rule in
    let made = c.in_ok-answers_of_rules.field-0 in
    c.in_ok-push.ensures.ok ∙ ap (λ xs. xs ++ made ∷ []) c.loop-rule.invariant ∙ ap (λ last. map (λ rule. answers_of_rules t (rule ∷ [])) (range_with_len 0 rule) ++ last ∷ []) c.in_ok-answers_of_rules.ensures
    ∙ sym (map-range_with_len_more (λ rule. answers_of_rules t (rule ∷ [])) 0 rule rule (omega arith))
