use Rattle.std.proofs.Common.{◌≡◌, [], ap, ◌∙◌}
use Rattle.tables.specs.Plan.{PlanParts}
use Rattle.explanation.proofs.Appending.{four}
use Rattle.explanation.proofs.refusal.facts_of_refused.Goals as goal

pub returns : goal.returns
returns c =
    let text = c.text_of-text.ensures in
    let version : c.version-version.result ≡ c.args.terms.now.plan.version = c.version-version.ensures.version ∙ ap (λ (p : PlanParts). p.version) c.plan.ensures.plan in
    let line = c.as_slice.ensures.value ∙ rw version at c.in_ok-line.ensures in
    let refusal = rw (c.in_ok-header.ensures, c.in_ok-fields.ensures, text) at c.in_ok-add_refusal.ensures in
    four [] c.add_place.new.facts c.add_refusal.new.facts c.add.new.self c.add_record.new.facts _ _ _ _ (rw c.new-facts.ensures at c.in_ok-add_place.ensures) refusal
    (rw (c.as_bytes.ensures.value, c.in_ok-reason.ensures) at c.in_ok-add.ensures) (rw line at c.in_ok-add_record.ensures)
