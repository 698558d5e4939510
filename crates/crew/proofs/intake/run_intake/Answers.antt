use Rattle.std.proofs.Common.{◌<◌, ap, length, refl, subst, ◌∙◌, arith}
use Rattle.std.proofs.lemmas.Grind.{common_steps}
use Rattle.std.proofs.lemmas.Bool.{or_left}
use Rattle.journal.specs.Events.{has_end}
use Rattle.gate_calls.specs.Sharing.{is_shut}
use Rattle.crew.specs.declared.intake.Intake.{Intake}
use Rattle.crew.proofs.Lefts.{first_record, left_none, spared}
use Rattle.gate_calls.proofs.Passes.{further, further_where_ok, leaves_by_memory, leaves_later, leaves_later_where_err, unchanged}
use Rattle.crew.proofs.intake.run_intake.Goals as goal

pub turns-init : goal.turns-init
turns-init g c =
    let first : Intake = record { provider = c.args.provider; rows = c.in-Ok.rows; count = 0; expected = 0; spare = c.new.result } in (
      unchanged (g.G.Gate.has_pass c.args.shared.now.gate.now) g.G.Gate.known c.args.pass c.args.pass c.requires.own refl,
      first_record c.reader_begins_with_all_rows.ensures c.args.shared.now.terms.now (g.G.Gate.known c.args.pass).seen first c.args.provider c.in-Ok.rows c.requires.terms
          c.requires.least c.requires.most c.in-Ok.ensures.rows,
      refl,
    )

pub returns-in-Err-clause-leaves : goal.returns-in-Err-clause-leaves
returns-in-Err-clause-leaves g c =
    let own = g.G.Gate.has_pass c.args.shared.now.gate.now in
    let known = g.G.Gate.known in
    leaves_by_memory own known g.G.Gate.is_worn c.args.pass c.args.pass c.in-Err.fault (unchanged own known c.args.pass c.args.pass c.requires.own refl) c.in-Err.ensures.fault

pub offer_turn-requires-clause-own : goal.offer_turn-requires-clause-own
offer_turn-requires-clause-own g c κs within = c.turns.invariant.0.own

pub offer_turn-requires-clause-any_order : goal.offer_turn-requires-clause-any_order
offer_turn-requires-clause-any_order g c κs within = c.requires.any_order

pub offer_turn-requires-clause-at : goal.offer_turn-requires-clause-at
offer_turn-requires-clause-at g c κs within =
    spared c.args.shared.now.terms.now (g.G.Gate.known c.turns.pass).seen c.turns.intake c.take_spare.new.intake c.take_spare.ensures c.turns.invariant.1

pub returns-in-Err-offer_turn-clause-leaves : goal.returns-in-Err-offer_turn-clause-leaves
returns-in-Err-offer_turn-clause-leaves g c =
    leaves_later (g.G.Gate.has_pass c.args.shared.now.gate.now) g.G.Gate.known g.G.Gate.is_worn c.args.pass c.turns.pass c.in-Err-offer_turn.exit c.turns.invariant.0
    c.in-Err-offer_turn.ensures.leaves

pub turns-preserved : goal.turns-preserved
turns-preserved g c =
    let on = c.in-Ok-offer_turn.ensures in
    let read = rw c.in-NextRecord.is at on.step in (
      further (g.G.Gate.has_pass c.args.shared.now.gate.now) g.G.Gate.known c.args.pass c.turns.pass c.in-Ok-offer_turn.onward.pass c.turns.invariant.0 on.goes_on,
      read.at,
      read.same ∙ (ap (λ intake. intake.provider) c.take_spare.ensures ∙ c.turns.invariant.2),
    )

pub returns-in-EndProvider-clause-goes_on : goal.returns-in-EndProvider-clause-goes_on
returns-in-EndProvider-clause-goes_on g c =
    let back = c.in-Ok-offer_turn.onward.pass in
    let here = further (g.G.Gate.has_pass c.args.shared.now.gate.now) g.G.Gate.known c.args.pass c.turns.pass back c.turns.invariant.0 c.in-Ok-offer_turn.ensures.goes_on in
    further_where_ok (g.G.Gate.has_pass c.args.shared.now.gate.now) g.G.Gate.known c.args.pass back c.end.result here c.end.ensures.goes_on

pub returns-in-EndProvider-clause-leaves : goal.returns-in-EndProvider-clause-leaves
returns-in-EndProvider-clause-leaves g c =
    let back = c.in-Ok-offer_turn.onward.pass in
    let here = further (g.G.Gate.has_pass c.args.shared.now.gate.now) g.G.Gate.known c.args.pass c.turns.pass back c.turns.invariant.0 c.in-Ok-offer_turn.ensures.goes_on in
    leaves_later_where_err (g.G.Gate.has_pass c.args.shared.now.gate.now) g.G.Gate.known g.G.Gate.is_worn c.args.pass back c.end.result here c.end.ensures.leaves

pub end-requires-clause-own : goal.end-requires-clause-own
end-requires-clause-own g c κs within = c.in-Ok-offer_turn.ensures.goes_on.own

pub end-requires-clause-terms : goal.end-requires-clause-terms
end-requires-clause-terms g c κs within =
    let read = rw c.in-EndProvider.is at c.in-Ok-offer_turn.ensures.step in
    read.at.of_terms

pub end-requires-clause-claims : goal.end-requires-clause-claims
end-requires-clause-claims g c κs within T is =
    let read = rw c.in-EndProvider.is at c.in-Ok-offer_turn.ensures.step in
    let intake = c.offer_turn.new.intake in
    let left = rw (read.same ∙ (ap (λ intake. intake.provider) c.take_spare.ensures ∙ c.turns.invariant.2)) at read.at.claims in
    left_none c.no_records_give_no_rows.ensures c.args.shared.now.terms.now T c.args.provider intake.count intake.rows is c.requires.least c.requires.most read.none (left T is)

pub end-requires-clause-taken : goal.end-requires-clause-taken
end-requires-clause-taken g c κs within =
    let read = rw c.in-EndProvider.is at c.in-Ok-offer_turn.ensures.step in
    let taken = rw (read.same ∙ (ap (λ intake. intake.provider) c.take_spare.ensures ∙ c.turns.invariant.2)) at read.at.has_taken in
    omega (arith, taken, read.at.reached)

pub returns-in-Leave-clause-goes_on : goal.returns-in-Leave-clause-goes_on
returns-in-Leave-clause-goes_on g c =
    further (g.G.Gate.has_pass c.args.shared.now.gate.now) g.G.Gate.known c.args.pass c.turns.pass c.in-Ok-offer_turn.onward.pass c.turns.invariant.0 c.in-Ok-offer_turn.ensures.goes_on

pub returns-in-Leave-clause-past : goal.returns-in-Leave-clause-past
returns-in-Leave-clause-past g c =
    let after = (g.G.Gate.known c.in-Ok-offer_turn.onward.pass).seen in
    or_left (is_shut after) (has_end after.journal c.args.provider) (rw c.in-Leave.is at c.in-Ok-offer_turn.ensures.step)

pub turns-smaller : goal.turns-smaller
turns-smaller g c =
    let read = rw c.in-NextRecord.is at c.in-Ok-offer_turn.ensures.step in
    subst (λ k. length c.offer_turn.new.intake.rows.records < k) (ap (λ intake. length intake.rows.records) c.take_spare.ensures) read.fewer

pub returns-in-EndProvider-clause-past : goal.returns-in-EndProvider-clause-past
returns-in-EndProvider-clause-past c = grind (arith, common_steps)

pub returns-in-Leave-clause-leaves : goal.returns-in-Leave-clause-leaves
returns-in-Leave-clause-leaves c = grind (arith, common_steps)

pub returns-in-Err-offer_turn-clause-goes_on : goal.returns-in-Err-offer_turn-clause-goes_on
returns-in-Err-offer_turn-clause-goes_on c = grind (arith, common_steps)

pub returns-in-Err-offer_turn-clause-past : goal.returns-in-Err-offer_turn-clause-past
returns-in-Err-offer_turn-clause-past c = grind (arith, common_steps)
