use Rattle.std.proofs.Common.{◌≡◌, map, ◌∷◌, []}
use Rattle.std.specs.List.{range_with_len}
use Rattle.cutplan.specs.CompiledAnswers.{answers_of_rules}
use Rattle.cutplan.proofs.compiled_answers.answers_alone.Given as goal

abbrev pub invariant-loop-rule : goal.invariant-loop-rule
invariant-loop-rule l = l.alone ≡ map (λ rule. answers_of_rules l.table (rule ∷ [])) (range_with_len 0 l.rule)
