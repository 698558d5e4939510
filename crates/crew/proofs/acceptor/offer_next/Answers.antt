use Rattle.std.proofs.Common.{refl, arith}
use Rattle.std.proofs.lemmas.Grind.{common_steps}
use Rattle.crew.proofs.Offers.{all_offered, offer_due, offer_filed, offer_taken, one_offered, stays_between}
use Rattle.gate_calls.proofs.Passes.{unchanged}
use Rattle.crew.proofs.acceptor.offer_next.Goals as goal

pub returns-in-Unread-clause-goes_on : goal.returns-in-Unread-clause-goes_on
returns-in-Unread-clause-goes_on g c = unchanged (g.G.Gate.has_pass c.args.shared.now.gate.now) g.G.Gate.known c.args.pass c.args.pass c.requires.own refl

pub returns-in-Unread-clause-step : goal.returns-in-Unread-clause-step
returns-in-Unread-clause-step g c =
    stays_between c.args.shared.now.terms.now (g.G.Gate.known c.args.pass).seen c.args.claims.now c.next.new.self (rw c.in-Unread.is at c.next.ensures) c.requires.at

pub returns-in-NoneLeft-clause-goes_on : goal.returns-in-NoneLeft-clause-goes_on
returns-in-NoneLeft-clause-goes_on g c = unchanged (g.G.Gate.has_pass c.args.shared.now.gate.now) g.G.Gate.known c.args.pass c.args.pass c.requires.own refl

pub returns-in-NoneLeft-clause-step : goal.returns-in-NoneLeft-clause-step
returns-in-NoneLeft-clause-step g c =
    all_offered c.args.shared.now.terms.now (g.G.Gate.known c.args.pass).seen c.args.claims.now c.next.new.self (rw c.in-NoneLeft.is at c.next.ensures).1 c.requires.at

pub offer-requires-clause-terms : goal.offer-requires-clause-terms
offer-requires-clause-terms g c κs within = c.requires.at.seen_terms

pub offer-requires-clause-filed : goal.offer-requires-clause-filed
offer-requires-clause-filed g c κs within =
    let gives = rw c.in-Given.is at c.next.ensures in
    offer_filed c.args.shared.now.terms.now (g.G.Gate.known c.args.pass).seen c.args.claims.now c.next.new.self c.in-Given.offered gives.0 c.requires.at

pub offer-requires-clause-due : goal.offer-requires-clause-due
offer-requires-clause-due g c κs within =
    let gives = rw c.in-Given.is at c.next.ensures in
    offer_due c.args.shared.now.terms.now (g.G.Gate.known c.args.pass).seen c.args.claims.now c.next.new.self c.in-Given.offered gives.0 c.requires.at

pub offer-requires-clause-taken : goal.offer-requires-clause-taken
offer-requires-clause-taken g c κs within =
    let gives = rw c.in-Given.is at c.next.ensures in
    offer_taken c.args.shared.now.terms.now (g.G.Gate.known c.args.pass).seen c.args.claims.now c.next.new.self c.in-Given.offered gives.0 c.requires.at

pub offer-requires-clause-room : goal.offer-requires-clause-room
offer-requires-clause-room g c κs within =
    let gives = rw c.in-Given.is at c.next.ensures in
    gives.0.room

pub returns-in_default-clause-step : goal.returns-in_default-clause-step
returns-in_default-clause-step g c = rw c.in_default.is at c.in-Ok.ensures.next

pub returns-clause-step : goal.returns-clause-step
returns-clause-step g c =
    let gives = rw c.in-Given.is at c.next.ensures in
    let next = rw c.in-Some.is at c.in-Ok.ensures.next in
    one_offered c.args.shared.now.terms.now (g.G.Gate.known c.args.pass).seen c.args.claims.now c.next.new.self c.in-Given.offered gives.0 c.requires.at gives.1
    (g.G.Gate.known c.in-Ok.onward.pass).seen c.in-Some.field-0 c.in-Ok.ensures.goes_on.seen next

pub returns-in_default-clause-goes_on : goal.returns-in_default-clause-goes_on
returns-in_default-clause-goes_on c = grind (arith, common_steps)

pub returns-in-Err-clause-step : goal.returns-in-Err-clause-step
returns-in-Err-clause-step c = grind (arith, common_steps)

pub returns-clause-goes_on : goal.returns-clause-goes_on
returns-clause-goes_on c = grind (arith, common_steps)

pub returns-in-Err-clause-leaves : goal.returns-in-Err-clause-leaves
returns-in-Err-clause-leaves c = grind (arith, common_steps)

pub returns-in-Err-clause-goes_on : goal.returns-in-Err-clause-goes_on
returns-in-Err-clause-goes_on c = grind (arith, common_steps)

pub returns-clause-leaves : goal.returns-clause-leaves
returns-clause-leaves c = grind (arith, common_steps)

pub returns-in_default-clause-leaves : goal.returns-in_default-clause-leaves
returns-in_default-clause-leaves c = grind (arith, common_steps)
