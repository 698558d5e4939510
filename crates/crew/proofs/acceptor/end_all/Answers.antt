use Rattle.std.proofs.Common.{◌≤◌, ◌+◌, length, refl, sym, ap, subst, ◌∙◌, arith}
use Rattle.std.proofs.lemmas.Grind.{common_steps}
use Rattle.std.proofs.lemmas.List.{length-map}
use Rattle.claim_gate.specs.Replies.{HasClaims}
use Rattle.claim_gate.specs.Terms.{ForTerms, TermsParts}
use Rattle.crew.proofs.Offers.{one_more_past}
use Rattle.gate_calls.proofs.Passes.{further, leaves_later, unchanged}
use Rattle.gate_calls.proofs.Sections.{no_fewer}
use Rattle.crew.proofs.acceptor.end_all.Goals as goal

pub providers-init : goal.providers-init
providers-init g c = (
  unchanged (g.G.Gate.has_pass c.args.shared.now.gate.now) g.G.Gate.known c.args.pass c.args.pass c.requires.own refl,
  λ provider least most. absurd (omega (arith, least, most)),
)

pub end-requires-clause-own : goal.end-requires-clause-own
end-requires-clause-own g c κs within = c.providers.invariant.0.own

pub end-requires-clause-terms : goal.end-requires-clause-terms
end-requires-clause-terms g c κs within = c.providers.invariant.0.seen.terms ∙ c.requires.all.at.seen_terms

pub end-requires-clause-claims : goal.end-requires-clause-claims
end-requires-clause-claims g c κs within =
    let provider = c.providers.place + 1 in
    let size = length-map c.files-files.result.now (λ f. f.now) in
    let files = ap length c.files-files.ensures.files in
    let most : provider ≤ length c.args.shared.now.terms.now.files = omega (arith, c.providers-test.true, size, files) in
    subst (λ n. ForTerms c.args.shared.now.terms.now (λ T. HasClaims T provider n)) (sym c.given_count-count.ensures)
    (c.requires.all.whole provider (omega arith) most)

pub end-requires-clause-taken : goal.end-requires-clause-taken
end-requires-clause-taken g c κs within =
    let provider = c.providers.place + 1 in
    let more = no_fewer (g.G.Gate.known c.args.pass).seen.journal (g.G.Gate.known c.providers.pass).seen.journal provider c.providers.invariant.0.seen.journal in
    omega (arith, c.given_count-count.ensures, c.requires.all.at.accepted provider, more)

pub returns-in-Err-clause-leaves : goal.returns-in-Err-clause-leaves
returns-in-Err-clause-leaves g c =
    leaves_later (g.G.Gate.has_pass c.args.shared.now.gate.now) g.G.Gate.known g.G.Gate.is_worn c.args.pass c.providers.pass c.in-Err.exit c.providers.invariant.0 c.in-Err.ensures.leaves

pub providers-preserved : goal.providers-preserved
providers-preserved g c =
    let known = g.G.Gate.known in (
      further (g.G.Gate.has_pass c.args.shared.now.gate.now) known c.args.pass c.providers.pass c.in-Ok.pass c.providers.invariant.0 c.in-Ok.ensures.goes_on,
      one_more_past (known c.providers.pass).seen (known c.in-Ok.pass).seen c.providers.place c.in-Ok.ensures.goes_on.seen c.providers.invariant.1 c.in-Ok.ensures.past,
    )

pub returns-clause-goes_on : goal.returns-clause-goes_on
returns-clause-goes_on g c = c.providers.invariant.0

pub returns-clause-past : goal.returns-clause-past
returns-clause-past g c provider least most =
    let size = length-map c.files-files.result.now (λ f. f.now) in
    let files = ap length c.files-files.ensures.files in
    c.providers.invariant.1 provider least (omega (arith, most, size, files))

pub given_count-count-requires-clause-most : goal.given_count-count-requires-clause-most
given_count-count-requires-clause-most g c =
    let size = length-map c.files-files.result.now (λ f. f.now) in
    let files = ap length c.files-files.ensures.files in
    let same = ap (λ (t : TermsParts). length t.files) c.requires.all.at.of_terms in
    omega (arith, c.providers-test.true, size, files, same)

pub returns-in-Err-clause-goes_on : goal.returns-in-Err-clause-goes_on
returns-in-Err-clause-goes_on c = grind (arith, common_steps)

pub returns-in-Err-clause-past : goal.returns-in-Err-clause-past
returns-in-Err-clause-past c = grind (arith, common_steps)
