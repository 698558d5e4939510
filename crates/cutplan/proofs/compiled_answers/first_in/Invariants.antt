use Rattle.std.proofs.Common.{◌≡◌, drop}
use Rattle.std.specs.List.{find}
use Rattle.cutplan.specs.CompiledAnswers.{is_in_mask}
use Rattle.cutplan.proofs.compiled_answers.first_in.Given as goal

abbrev pub invariant-loop-rule : goal.invariant-loop-rule
invariant-loop-rule l = find (is_in_mask l.mask) (drop l.rule-index l.order) ≡ find (is_in_mask l.mask) l.order
