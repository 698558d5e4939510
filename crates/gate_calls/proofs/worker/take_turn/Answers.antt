use Rattle.std.proofs.Common.{refl, ◌∙◌, arith}
use Rattle.std.proofs.lemmas.Grind.{common_steps}
use Rattle.gate_calls.proofs.HeldClaims.{all_recorded_beside}
use Rattle.gate_calls.proofs.Passes.{further_beside, leads_beside, leaves_for_memory, leaves_later_where_err, unchanged}
use Rattle.gate_calls.proofs.worker.take_turn.Goals as goal

pub returns-in_default-clause-leaves : goal.returns-in_default-clause-leaves
returns-in_default-clause-leaves g c =
    let own = g.G.Gate.has_pass c.args.shared.now.gate.now in
    let known = g.G.Gate.known in
    leaves_for_memory own known g.G.Gate.is_worn c.args.pass c.args.pass (unchanged own known c.args.pass c.args.pass c.requires.own refl)

pub returns-in_default-with_capacity-clause-leaves : goal.returns-in_default-with_capacity-clause-leaves
returns-in_default-with_capacity-clause-leaves g c =
    let own = g.G.Gate.has_pass c.args.shared.now.gate.now in
    let known = g.G.Gate.known in
    leaves_for_memory own known g.G.Gate.is_worn c.args.pass c.args.pass (unchanged own known c.args.pass c.args.pass c.requires.own refl)

pub record_all-requires-clause-settled : goal.record_all-requires-clause-settled
record_all-requires-clause-settled g c κs within = c.requires.settled

pub returns-in-Err-clause-leaves : goal.returns-in-Err-clause-leaves
returns-in-Err-clause-leaves g c = c.in-Err.ensures.leaves

pub gather-gathered-requires-clause-own : goal.gather-gathered-requires-clause-own
gather-gathered-requires-clause-own g c κs within = c.in-Ok-record_all.ensures.goes_on.own

pub gather-gathered-requires-clause-terms : goal.gather-gathered-requires-clause-terms
gather-gathered-requires-clause-terms g c κs within = c.in-Ok-record_all.ensures.goes_on.seen.terms ∙ c.requires.terms

pub returns-clause-goes_on : goal.returns-clause-goes_on
returns-clause-goes_on g c =
    further_beside (g.G.Gate.has_pass c.args.shared.now.gate.now) g.G.Gate.known c.args.pass c.in-Ok-record_all.pass c.gather-gathered.result c.in-Ok-record_all.ensures.goes_on
    c.gather-gathered.ensures.goes_on

pub returns-clause-gathered : goal.returns-clause-gathered
returns-clause-gathered g c = c.gather-gathered.ensures.gathered

pub returns-clause-leaves : goal.returns-clause-leaves
returns-clause-leaves g c =
    leaves_later_where_err (g.G.Gate.has_pass c.args.shared.now.gate.now) g.G.Gate.known g.G.Gate.is_worn c.args.pass c.in-Ok-record_all.pass c.gather-gathered.result
    c.in-Ok-record_all.ensures.goes_on c.gather-gathered.ensures.leaves

pub returns-clause-recorded : goal.returns-clause-recorded
returns-clause-recorded g c =
    let leads = leads_beside (g.G.Gate.has_pass c.args.shared.now.gate.now) g.G.Gate.known c.in-Ok-record_all.pass c.gather-gathered.result c.gather-gathered.ensures.goes_on in
    all_recorded_beside g.G.Gate.known (g.G.Gate.known c.in-Ok-record_all.pass).seen c.args.settled.items c.gather-gathered.result c.in-Ok-record_all.ensures.recorded leads

pub returns-in-Err-clause-gathered : goal.returns-in-Err-clause-gathered
returns-in-Err-clause-gathered c = grind (arith, common_steps)

pub returns-in-Err-clause-goes_on : goal.returns-in-Err-clause-goes_on
returns-in-Err-clause-goes_on c = grind (arith, common_steps)

pub returns-in-Err-clause-recorded : goal.returns-in-Err-clause-recorded
returns-in-Err-clause-recorded c = grind (arith, common_steps)
