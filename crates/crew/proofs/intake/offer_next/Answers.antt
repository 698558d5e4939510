use Rattle.std.proofs.Common.{refl, ◌∙◌, arith}
use Rattle.std.proofs.lemmas.Grind.{common_steps}
use Rattle.crew.proofs.Offers.{due_in_any}
use Rattle.gate_calls.proofs.Passes.{leaves_for_memory, unchanged}
use Rattle.crew.proofs.intake.offer_next.Goals as goal

pub read_record-requires-clause-place : goal.read_record-requires-clause-place
read_record-requires-clause-place g c = c.requires.at.place

pub read_record-requires-clause-fewer : goal.read_record-requires-clause-fewer
read_record-requires-clause-fewer g c = c.requires.at.fewer

pub returns-in-Err-clause-leaves : goal.returns-in-Err-clause-leaves
returns-in-Err-clause-leaves g c =
    let own = g.G.Gate.has_pass c.args.shared.now.gate.now in
    let known = g.G.Gate.known in
    leaves_for_memory own known g.G.Gate.is_worn c.args.pass c.args.pass (unchanged own known c.args.pass c.args.pass c.requires.own refl)

pub returns-in-Skipped-clause-goes_on : goal.returns-in-Skipped-clause-goes_on
returns-in-Skipped-clause-goes_on g c = unchanged (g.G.Gate.has_pass c.args.shared.now.gate.now) g.G.Gate.known c.args.pass c.args.pass c.requires.own refl

pub returns-in-Skipped-clause-step : goal.returns-in-Skipped-clause-step
returns-in-Skipped-clause-step g c =
    let reads = rw c.in-Skipped.is at c.in-Ok.ensures in
    reads c.args.shared.now.terms.now (g.G.Gate.known c.args.pass).seen c.requires.at

pub returns-in-Missing-clause-goes_on : goal.returns-in-Missing-clause-goes_on
returns-in-Missing-clause-goes_on g c = unchanged (g.G.Gate.has_pass c.args.shared.now.gate.now) g.G.Gate.known c.args.pass c.args.pass c.requires.own refl

pub returns-in-Missing-clause-step : goal.returns-in-Missing-clause-step
returns-in-Missing-clause-step g c =
    let reads = rw c.in-Missing.is at c.in-Ok.ensures in
    reads c.args.shared.now.terms.now (g.G.Gate.known c.args.pass).seen c.requires.at

pub offer-requires-clause-terms : goal.offer-requires-clause-terms
offer-requires-clause-terms g c κs within = c.requires.at.of_terms

pub offer-requires-clause-filed : goal.offer-requires-clause-filed
offer-requires-clause-filed g c κs within =
    let reads = rw c.in-Claim.is at c.in-Ok.ensures in
    (reads c.args.shared.now.terms.now (g.G.Gate.known c.args.pass).seen c.requires.at).filed

pub offer-requires-clause-due : goal.offer-requires-clause-due
offer-requires-clause-due g c κs within =
    due_in_any c.args.shared.now.terms.now (g.G.Gate.known c.args.pass).seen _ _ c.requires.at.of_terms c.requires.any_order

pub offer-requires-clause-taken : goal.offer-requires-clause-taken
offer-requires-clause-taken g c κs within =
    let reads = rw c.in-Claim.is at c.in-Ok.ensures in
    (reads c.args.shared.now.terms.now (g.G.Gate.known c.args.pass).seen c.requires.at).taken

pub offer-requires-clause-room : goal.offer-requires-clause-room
offer-requires-clause-room g c κs within =
    let reads = rw c.in-Claim.is at c.in-Ok.ensures in
    (reads c.args.shared.now.terms.now (g.G.Gate.known c.args.pass).seen c.requires.at).room

pub returns-in_default-clause-step : goal.returns-in_default-clause-step
returns-in_default-clause-step g c = rw c.in_default.is at c.in-Ok-offer.ensures.next

pub returns-clause-step : goal.returns-clause-step
returns-clause-step g c =
    let reads = rw c.in-Claim.is at c.in-Ok.ensures in
    let before = (g.G.Gate.known c.args.pass).seen in
    let after = (g.G.Gate.known c.in-Ok-offer.onward.pass).seen in
    let to = reads c.args.shared.now.terms.now before c.requires.at in
    let next = rw c.in-Some.is at c.in-Ok-offer.ensures.next in
    record {
      at = to.after after c.in-Some.next (c.in-Ok-offer.ensures.goes_on.seen.terms ∙ c.requires.at.of_terms) next.0 next.1;
      same = to.same;
      fewer = to.fewer;
    }

pub returns-in-Err-offer-clause-leaves : goal.returns-in-Err-offer-clause-leaves
returns-in-Err-offer-clause-leaves c = grind (arith, common_steps)
