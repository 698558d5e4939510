use Rattle.std.proofs.Common.{◌≡◌, [], Ok, ap, sym, subst, ◌∙◌}
use Rattle.tables.specs.Environment.{answers_of}
use Rattle.tables.proofs.evaluation.PlanValuer.value.Goals as goal

pub returns-clause-value : goal.returns-clause-value
returns-clause-value c =
    let answered = subst (λ tables. answers_of c.args.inputs.now [] tables ≡ Ok c.in_ok-answers.answers) c.tables.ensures.tables c.in_ok-answers.ensures in
    rw answered (ap Ok (sym (c.new.ensures ∙ ap (λ tables. record { tables = tables; answers = c.in_ok-answers.answers }) c.tables-2.ensures.tables)))
