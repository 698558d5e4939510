use Rattle.std.proofs.Common.{arith}
use Rattle.std.proofs.lemmas.Grind.{common_steps}
use Rattle.cutplan.specs.CompiledAnswers.{compiled_answers}
use Rattle.cutplan.proofs.Compiling.{more_mapped}
use Rattle.cutplan.proofs.compiled_answers.answers_of_tables.Goals as goal

pub loop-table-preserved : goal.loop-table-preserved
loop-table-preserved c =
    more_mapped compiled_answers c.args.tables.now c.loop-table.all _ c.loop-table.table-index c.table-item.result c.in_ok-compiled_answers.field-0 c.loop-table-test.true c.table-item.is
    c.loop-table.invariant c.in_ok-compiled_answers.ensures c.in_ok-push.ensures.ok

pub returns : goal.returns
returns c = grind (arith, common_steps)
