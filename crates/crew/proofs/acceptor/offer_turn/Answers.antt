use Rattle.std.proofs.Common.{refl, ◌∙◌, arith}
use Rattle.std.proofs.lemmas.Grind.{common_steps}
use Rattle.crew.proofs.Offers.{step_after, still_at}
use Rattle.gate_calls.proofs.Passes.{further, leaves_later, unchanged}
use Rattle.crew.proofs.acceptor.offer_turn.Goals as goal

pub offers-init : goal.offers-init
offers-init g c = (
  unchanged (g.G.Gate.has_pass c.args.shared.now.gate.now) g.G.Gate.known c.args.pass c.args.pass c.requires.own refl,
  c.requires.at,
  omega arith,
  refl,
)

pub returns-in-Err-clause-leaves : goal.returns-in-Err-clause-leaves
returns-in-Err-clause-leaves g c =
    leaves_later (g.G.Gate.has_pass c.args.shared.now.gate.now) g.G.Gate.known g.G.Gate.is_worn c.args.pass c.offers.pass c.in-Err.exit c.offers.invariant.0 c.in-Err.ensures.leaves

pub offer_next-requires-clause-own : goal.offer_next-requires-clause-own
offer_next-requires-clause-own g c κs within = c.in-Ok.ensures.goes_on.own

pub offer_next-requires-clause-at : goal.offer_next-requires-clause-at
offer_next-requires-clause-at g c κs within =
    let known = g.G.Gate.known in
    still_at c.args.shared.now.terms.now (known c.offers.pass).seen (known c.in-Ok.pass).seen c.offers.claims c.in-Ok.ensures.goes_on.seen c.offers.invariant.1

pub returns-in-Err-offer_next-clause-leaves : goal.returns-in-Err-offer_next-clause-leaves
returns-in-Err-offer_next-clause-leaves g c =
    let own = g.G.Gate.has_pass c.args.shared.now.gate.now in
    let known = g.G.Gate.known in
    let here = further own known c.args.pass c.offers.pass c.in-Ok.pass c.offers.invariant.0 c.in-Ok.ensures.goes_on in
    leaves_later own known g.G.Gate.is_worn c.args.pass c.in-Ok.pass c.in-Err-offer_next.exit here c.in-Err-offer_next.ensures.leaves

pub offers-preserved : goal.offers-preserved
offers-preserved g c =
    let own = g.G.Gate.has_pass c.args.shared.now.gate.now in
    let known = g.G.Gate.known in
    let here = further own known c.args.pass c.offers.pass c.in-Ok.pass c.offers.invariant.0 c.in-Ok.ensures.goes_on in
    let on = c.in-Ok-offer_next.ensures in
    let offered = rw c.in-NextClaim.is at on.step in (
      further own known c.args.pass c.in-Ok.pass c.in-Ok-offer_next.onward.pass here on.goes_on,
      offered.between.at,
      omega (arith, offered.fewer, c.offers.invariant.2),
      offered.between.read ∙ c.offers.invariant.3,
    )

pub returns-in_default-clause-goes_on : goal.returns-in_default-clause-goes_on
returns-in_default-clause-goes_on g c =
    let own = g.G.Gate.has_pass c.args.shared.now.gate.now in
    let known = g.G.Gate.known in
    let here = further own known c.args.pass c.offers.pass c.in-Ok.pass c.offers.invariant.0 c.in-Ok.ensures.goes_on in
    further own known c.args.pass c.in-Ok.pass c.in-Ok-offer_next.onward.pass here c.in-Ok-offer_next.ensures.goes_on

pub returns-in_default-clause-step : goal.returns-in_default-clause-step
returns-in_default-clause-step g c =
    step_after c.args.shared.now.terms.now (g.G.Gate.known c.in-Ok-offer_next.onward.pass).seen c.args.claims.now c.offers.claims c.offer_next.new.claims c.in-Ok-offer_next.onward.value
    c.offers.invariant.3 (omega (arith, c.offers.invariant.2)) c.in-Ok-offer_next.ensures.step

pub returns-clause-goes_on : goal.returns-clause-goes_on
returns-clause-goes_on g c = c.offers.invariant.0

pub returns-clause-step : goal.returns-clause-step
returns-clause-step g c = record { between = record { at = c.offers.invariant.1; read = c.offers.invariant.3 }; fewer = omega (arith, c.offers.invariant.2) }

pub returns-in_default-clause-leaves : goal.returns-in_default-clause-leaves
returns-in_default-clause-leaves c = grind (arith, common_steps)

pub returns-in-Err-clause-step : goal.returns-in-Err-clause-step
returns-in-Err-clause-step c = grind (arith, common_steps)

pub returns-in-Err-offer_next-clause-goes_on : goal.returns-in-Err-offer_next-clause-goes_on
returns-in-Err-offer_next-clause-goes_on c = grind (arith, common_steps)

pub fetch_upcoming-requires-clause-own : goal.fetch_upcoming-requires-clause-own
fetch_upcoming-requires-clause-own c = grind (arith, common_steps)

pub returns-in-Err-offer_next-clause-step : goal.returns-in-Err-offer_next-clause-step
returns-in-Err-offer_next-clause-step c = grind (arith, common_steps)

pub returns-in-Err-clause-goes_on : goal.returns-in-Err-clause-goes_on
returns-in-Err-clause-goes_on c = grind (arith, common_steps)
