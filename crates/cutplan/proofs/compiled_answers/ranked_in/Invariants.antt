use Rattle.std.proofs.Common.{◌≡◌, filter, take}
use Rattle.cutplan.specs.CompiledAnswers.{is_in_mask}
use Rattle.cutplan.proofs.compiled_answers.ranked_in.Given as goal

abbrev pub invariant-loop-rule : goal.invariant-loop-rule
invariant-loop-rule l = l.ranked ≡ filter (is_in_mask l.mask) (take l.rule-index l.order)
