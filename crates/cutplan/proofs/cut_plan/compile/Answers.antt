use Rattle.std.proofs.Common.{map, ap, ◌∙◌, subst}
use Rattle.std.specs.List.{AllZip}
use Rattle.cutplan.specs.CompiledColumns.{AreCompiledColumns}
use Rattle.cutplan.specs.CompiledAnswers.{compiled_answers}
use Rattle.cutplan.proofs.Compiling.{cut_of}
use Rattle.cutplan.proofs.ClassNumbers.{reads_its_names}
use Rattle.cutplan.proofs.cut_plan.compile.Goals as goal

pub invariant_of-result : goal.invariant_of-result
invariant_of-result c =
    let p = c.args.plan.now in
    let columns = c.in_ok-columns.columns in
    record {
      cut = cut_of p columns (subst (λ tables. AllZip (AreCompiledColumns p) tables columns) c.tables.ensures.tables c.in_ok-columns.ensures) c.tables.ensures.sound;
      answers = c.in_ok-answers.ensures ∙ ap (map compiled_answers) c.tables-2.ensures.tables;
      names = c.in_ok-names.ensures;
      within = reads_its_names p c.tables.ensures.sound;
    }
