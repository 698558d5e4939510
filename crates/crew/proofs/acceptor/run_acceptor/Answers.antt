use Rattle.std.proofs.Common.{refl, ◌∙◌, arith}
use Rattle.std.proofs.lemmas.Grind.{common_steps}
use Rattle.std.proofs.lemmas.Bool.{false≢true, or_left}
use Rattle.journal.specs.Events.{has_end}
use Rattle.gate_calls.specs.Sharing.{is_shut}
use Rattle.crew.proofs.Offers.{first_claim, joined_after, same_given}
use Rattle.gate_calls.proofs.Passes.{further, further_where_ok, leaves_for_memory, leaves_later, leaves_later_where_err, unchanged}
use Rattle.crew.proofs.acceptor.run_acceptor.Goals as goal

pub loop-init : goal.loop-init
loop-init g c =
    let known = g.G.Gate.known in
    let first = first_claim c.args.shared.now.terms.now (known c.args.pass).seen c.in-Ok.claims c.requires.terms c.in-Ok.ensures.start in
    let split = c.split-queues in (
      tt,
      tt,
      unchanged (g.G.Gate.has_pass c.args.shared.now.gate.now) known c.args.pass c.args.pass c.requires.own refl,
      same_given c.args.shared.now.terms.now (known c.args.pass).seen c.in-Ok.claims split.result.0 split.ensures.terms split.ensures.given first,
      split.ensures.joined,
    )

pub returns-in-Err-clause-leaves : goal.returns-in-Err-clause-leaves
returns-in-Err-clause-leaves g c =
    let own = g.G.Gate.has_pass c.args.shared.now.gate.now in
    let known = g.G.Gate.known in
    leaves_for_memory own known g.G.Gate.is_worn c.args.pass c.args.pass (unchanged own known c.args.pass c.args.pass c.requires.own refl)

pub unreachable-requires : goal.unreachable-requires
unreachable-requires g c = false≢true c.in-None.ensures.steps

pub returns-in_default-clause-leaves : goal.returns-in_default-clause-leaves
returns-in_default-clause-leaves g c =
    leaves_for_memory (g.G.Gate.has_pass c.args.shared.now.gate.now) g.G.Gate.known g.G.Gate.is_worn c.args.pass c.loop.pass c.loop.invariant.2

pub returns-in-Err-onward-clause-leaves : goal.returns-in-Err-onward-clause-leaves
returns-in-Err-onward-clause-leaves g c =
    leaves_later (g.G.Gate.has_pass c.args.shared.now.gate.now) g.G.Gate.known g.G.Gate.is_worn c.args.pass c.loop.pass c.in-Err-onward.exit c.loop.invariant.2
    (rw c.in-Err-onward.is at c.offer_while_reading-read.ensures.leaves)

pub loop-preserved : goal.loop-preserved
loop-preserved g c =
    let known = g.G.Gate.known in
    let round = c.offer_while_reading-read.ensures in
    let back = c.in-Ok-onward.onward.pass in
    let on = rw c.in-Ok-onward.is at round.goes_on in
    let offered = rw c.in-Ok-onward.is at round.offered in
    let rest = rw c.in-Part.is at offered in (
      tt,
      tt,
      further (g.G.Gate.has_pass c.args.shared.now.gate.now) known c.args.pass c.loop.pass back c.loop.invariant.2 on,
      rest.at,
      joined_after c.args.shared.now.terms.now (known back).seen c.take_from.new.self c.in-Part.rest c.take_from.new.readers c.offer_while_reading-read.result.0 c.take_from.ensures.joined
          (round.terms ∙ c.reuse.ensures.terms) (round.taken ∙ c.reuse.ensures.taken) (c.take_from.ensures.terms ∙ c.loop.invariant.3.of_terms) rest,
    )

pub end_all-requires-clause-own : goal.end_all-requires-clause-own
end_all-requires-clause-own g c κs within =
    let on = rw c.in-Ok-onward.is at c.offer_while_reading-read.ensures.goes_on in
    on.own

pub end_all-requires-clause-all : goal.end_all-requires-clause-all
end_all-requires-clause-all g c κs within =
    let offered = rw c.in-Ok-onward.is at c.offer_while_reading-read.ensures.offered in
    rw c.in-Whole.is at offered

pub returns-in-Whole-clause-goes_on : goal.returns-in-Whole-clause-goes_on
returns-in-Whole-clause-goes_on g c =
    let own = g.G.Gate.has_pass c.args.shared.now.gate.now in
    let known = g.G.Gate.known in
    let back = c.in-Ok-onward.onward.pass in
    let on = rw c.in-Ok-onward.is at c.offer_while_reading-read.ensures.goes_on in
    let here = further own known c.args.pass c.loop.pass back c.loop.invariant.2 on in
    further_where_ok own known c.args.pass back c.end_all.result here c.end_all.ensures.goes_on

pub returns-in-Whole-clause-past : goal.returns-in-Whole-clause-past
returns-in-Whole-clause-past g c = c.end_all.ensures.past

pub returns-in-Whole-clause-leaves : goal.returns-in-Whole-clause-leaves
returns-in-Whole-clause-leaves g c =
    let own = g.G.Gate.has_pass c.args.shared.now.gate.now in
    let known = g.G.Gate.known in
    let back = c.in-Ok-onward.onward.pass in
    let on = rw c.in-Ok-onward.is at c.offer_while_reading-read.ensures.goes_on in
    let here = further own known c.args.pass c.loop.pass back c.loop.invariant.2 on in
    leaves_later_where_err own known g.G.Gate.is_worn c.args.pass back c.end_all.result here c.end_all.ensures.leaves

pub returns-in-Shut-clause-goes_on : goal.returns-in-Shut-clause-goes_on
returns-in-Shut-clause-goes_on g c =
    let on = rw c.in-Ok-onward.is at c.offer_while_reading-read.ensures.goes_on in
    further (g.G.Gate.has_pass c.args.shared.now.gate.now) g.G.Gate.known c.args.pass c.loop.pass c.in-Ok-onward.onward.pass c.loop.invariant.2 on

pub returns-in-Shut-clause-past : goal.returns-in-Shut-clause-past
returns-in-Shut-clause-past g c provider least most =
    let after = (g.G.Gate.known c.in-Ok-onward.onward.pass).seen in
    let offered = rw c.in-Ok-onward.is at c.offer_while_reading-read.ensures.offered in
    or_left (is_shut after) (has_end after.journal provider) (rw c.in-Shut.is at offered)

pub returns-in_default-clause-past : goal.returns-in_default-clause-past
returns-in_default-clause-past c = grind (arith, common_steps)

pub take_from-requires-clause-joined : goal.take_from-requires-clause-joined
take_from-requires-clause-joined c = grind (arith, common_steps)

pub offer_while_reading-read-requires-clause-own : goal.offer_while_reading-read-requires-clause-own
offer_while_reading-read-requires-clause-own c = grind (arith, common_steps)

pub returns-in-Err-onward-clause-goes_on : goal.returns-in-Err-onward-clause-goes_on
returns-in-Err-onward-clause-goes_on c = grind (arith, common_steps)

pub loop-init-derived : goal.loop-init-derived
loop-init-derived c = grind (arith, common_steps)

pub returns-in_default-clause-goes_on : goal.returns-in_default-clause-goes_on
returns-in_default-clause-goes_on c = grind (arith, common_steps)

pub take_from-requires-clause-terms : goal.take_from-requires-clause-terms
take_from-requires-clause-terms c = grind (arith, common_steps)

pub offer_while_reading-read-requires-clause-threads : goal.offer_while_reading-read-requires-clause-threads
offer_while_reading-read-requires-clause-threads c = grind (arith, common_steps)

pub unreachable-unreachable : goal.unreachable-unreachable
unreachable-unreachable c = grind (arith, common_steps)

pub returns-in-Shut-clause-leaves : goal.returns-in-Shut-clause-leaves
returns-in-Shut-clause-leaves c = grind (arith, common_steps)

pub returns-in-Err-onward-clause-past : goal.returns-in-Err-onward-clause-past
returns-in-Err-onward-clause-past c = grind (arith, common_steps)
