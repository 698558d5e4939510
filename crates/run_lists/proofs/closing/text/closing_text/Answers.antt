use Rattle.std.proofs.Common.{ap, ◌∙◌}
use Rattle.tables.specs.Plan.{PlanParts}
use Rattle.run_lists.specs.Entries.{entries_of}
use Rattle.run_lists.proofs.Rendering.{closing-made}
use Rattle.run_lists.proofs.closing.text.closing_text.Goals as goal

pub returns : goal.returns
returns c =
    closing-made c.args.terms.now c.args.batch.now.journal c.version.result (entries_of c.in_ok-closing.closing) c.text_of-text.result c.in_ok-closing.ensures
    (c.version.ensures.version ∙ ap (λ (p : PlanParts). p.version) c.plan.ensures.plan) c.text_of-text.ensures.text c.text_of-text.ensures.writable
