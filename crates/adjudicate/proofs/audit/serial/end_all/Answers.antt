use Rattle.std.proofs.Common.{◌≡◌, ◌+◌, ◌∙◌, ap, arith, length, sym}
use Rattle.std.proofs.lemmas.Grind.{common_steps}
use Rattle.std.proofs.lemmas.List.{length-map}
use Rattle.claim_gate.specs.Terms.{TermsParts}
use Rattle.adjudicate.proofs.Given.{accepted_still, end_claims}
use Rattle.adjudicate.proofs.Steps.{closed_after_all, past_more}
use Rattle.adjudicate.proofs.audit.serial.end_all.Goals as goal

pub loop-place-preserved : goal.loop-place-preserved
loop-place-preserved c =
    let on = c.in_ok-end.ensures in (
      on.idle,
      on.none.terms ∙ c.loop-place.invariant.1,
      accepted_still c.args.claims.now c.loop-place.gate c.end.new.gate on.none c.loop-place.invariant.2,
      past_more c.loop-place.gate c.end.new.gate c.loop-place.place on.leads c.loop-place.invariant.3 on.past,
    )

pub returns-clause-over : goal.returns-clause-over
returns-clause-over c =
    let gate = c.loop-place.gate in
    let files = c.files-files.result.now in
    let size : length gate.terms.files ≡ length files =
    ap (λ (terms : TermsParts). length terms.files) c.loop-place.invariant.1 ∙ sym (ap length c.files-files.ensures.files) ∙ length-map files (λ f. f.now) in
    closed_after_all gate c.loop-place.invariant.0 (λ provider least most. c.loop-place.invariant.3 provider least (omega (arith, most, size, c.loop-place-test.false)))

pub loop-place-init : goal.loop-place-init
loop-place-init c = (c.requires.idle, c.requires.terms, c.requires.accepted, λ provider least most. absurd (omega (arith, least, most)))

pub end-requires-clause-claims : goal.end-requires-clause-claims
end-requires-clause-claims c =
    let claims = c.args.claims.now in
    let files = c.files-files.result.now in
    let size : length claims.terms.files ≡ length files =
    ap (λ (terms : TermsParts). length terms.files) c.requires.of_terms ∙ sym (ap length c.files-files.ensures.files) ∙ length-map files (λ f. f.now) in
    end_claims claims c.loop-place.gate (c.loop-place.place + 1) _ (c.requires.of_terms ∙ sym c.loop-place.invariant.1) c.requires.all (omega arith)
    (omega (arith, size, c.loop-place-test.true)) c.given_count.ensures

pub given_count-requires-clause-most : goal.given_count-requires-clause-most
given_count-requires-clause-most c = grind (arith, common_steps)
