use Rattle.std.proofs.Common.{rules}
use Rattle.toml.specs.View.{view}
use Rattle.dtable.proofs.ReadPlan.{document_of_text, IfErr-from_Reads}
use Rattle.dtable.specs.PlanFile.{IsPlanText, IsPlanDocument}
use Rattle.dtable.proofs.reading.read_plan.Goals as goal

pub returns-clause-refused : goal.returns-clause-refused
returns-clause-refused c =
    let text = c.args.text.now in
    let d = view c.in_ok-document.document in
    IfErr-from_Reads (IsPlanDocument d) (IsPlanText text) c.plan_of.result (λ p. document_of_text text d p c.in_ok-document.ensures.document) c.plan_of.ensures

pub returns-then-text-gt-PLAN_LIMIT_BYTES-clause-refused : goal.returns-then-text-gt-PLAN_LIMIT_BYTES-clause-refused
returns-then-text-gt-PLAN_LIMIT_BYTES-clause-refused c = search rules
