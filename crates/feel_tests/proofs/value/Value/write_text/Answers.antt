use Rattle.std.proofs.Common.{arith}
use Rattle.std.proofs.lemmas.Grind.{common_steps}
use Rattle.feel_tests.proofs.value.Value.write_text.Goals as goal

pub returns-in-Flag-true-clause-ok : goal.returns-in-Flag-true-clause-ok
returns-in-Flag-true-clause-ok c = grind (arith, common_steps)

pub returns-in-Flag-true-clause-err : goal.returns-in-Flag-true-clause-err
returns-in-Flag-true-clause-err c = grind (arith, common_steps)

pub returns-in-Flag-false-clause-ok : goal.returns-in-Flag-false-clause-ok
returns-in-Flag-false-clause-ok c = grind (arith, common_steps)

pub returns-in-Flag-false-clause-err : goal.returns-in-Flag-false-clause-err
returns-in-Flag-false-clause-err c = grind (arith, common_steps)

pub returns-in_ok-literal-in-Day-clause-ok : goal.returns-in_ok-literal-in-Day-clause-ok
returns-in_ok-literal-in-Day-clause-ok c = grind (arith, common_steps)

pub returns-in_ok-literal-in-Day-clause-err : goal.returns-in_ok-literal-in-Day-clause-err
returns-in_ok-literal-in-Day-clause-err c = grind (arith, common_steps)

pub returns-in_ok-literal-in-Text-clause-ok : goal.returns-in_ok-literal-in-Text-clause-ok
returns-in_ok-literal-in-Text-clause-ok c = grind (arith, common_steps)

pub returns-in_ok-literal-in-Text-clause-err : goal.returns-in_ok-literal-in-Text-clause-err
returns-in_ok-literal-in-Text-clause-err c = grind (arith, common_steps)

pub slice_bounds-extend_from_slice-end : goal.slice_bounds-extend_from_slice-end
slice_bounds-extend_from_slice-end c = grind (arith, common_steps)

pub returns-in-Number-clause-ok : goal.returns-in-Number-clause-ok
returns-in-Number-clause-ok c = grind (arith, common_steps)

pub returns-in-Number-clause-err : goal.returns-in-Number-clause-err
returns-in-Number-clause-err c = grind (arith, common_steps)
