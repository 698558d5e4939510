use Rattle.std.proofs.Common.{refl, ◌∙◌, arith}
use Rattle.std.proofs.lemmas.Grind.{common_steps}
use Rattle.gate_calls.proofs.Passes.{further, leaves_later, unchanged}
use Rattle.crew.proofs.intake.offer_turn.Goals as goal

pub records-init : goal.records-init
records-init g c = (
  unchanged (g.G.Gate.has_pass c.args.shared.now.gate.now) g.G.Gate.known c.args.pass c.args.pass c.requires.own refl,
  c.requires.at,
  refl,
  omega arith,
)

pub offer_next-requires-clause-own : goal.offer_next-requires-clause-own
offer_next-requires-clause-own g c κs within = c.records.invariant.0.own

pub offer_next-requires-clause-any_order : goal.offer_next-requires-clause-any_order
offer_next-requires-clause-any_order g c κs within = c.requires.any_order

pub offer_next-requires-clause-at : goal.offer_next-requires-clause-at
offer_next-requires-clause-at g c κs within = c.records.invariant.1

pub returns-in-Err-clause-leaves : goal.returns-in-Err-clause-leaves
returns-in-Err-clause-leaves g c =
    leaves_later (g.G.Gate.has_pass c.args.shared.now.gate.now) g.G.Gate.known g.G.Gate.is_worn c.args.pass c.records.pass c.in-Err.exit c.records.invariant.0 c.in-Err.ensures.leaves

pub records-preserved : goal.records-preserved
records-preserved g c =
    let on = c.in-Ok.ensures in
    let read = rw c.in-NextRecord.is at on.step in (
      further (g.G.Gate.has_pass c.args.shared.now.gate.now) g.G.Gate.known c.args.pass c.records.pass c.in-Ok.onward.pass c.records.invariant.0 on.goes_on,
      read.at,
      read.same ∙ c.records.invariant.2,
      omega (arith, read.fewer, c.records.invariant.3),
    )

pub returns-in-EndProvider-clause-goes_on : goal.returns-in-EndProvider-clause-goes_on
returns-in-EndProvider-clause-goes_on g c =
    further (g.G.Gate.has_pass c.args.shared.now.gate.now) g.G.Gate.known c.args.pass c.records.pass c.in-Ok.onward.pass c.records.invariant.0 c.in-Ok.ensures.goes_on

pub returns-in-EndProvider-clause-step : goal.returns-in-EndProvider-clause-step
returns-in-EndProvider-clause-step g c =
    let read = rw c.in-EndProvider.is at c.in-Ok.ensures.step in
    record { at = read.at; same = read.same ∙ c.records.invariant.2; none = read.none }

pub returns-in-Leave-clause-goes_on : goal.returns-in-Leave-clause-goes_on
returns-in-Leave-clause-goes_on g c =
    further (g.G.Gate.has_pass c.args.shared.now.gate.now) g.G.Gate.known c.args.pass c.records.pass c.in-Ok.onward.pass c.records.invariant.0 c.in-Ok.ensures.goes_on

pub returns-in-Leave-clause-step : goal.returns-in-Leave-clause-step
returns-in-Leave-clause-step g c = rw c.in-Leave.is at c.in-Ok.ensures.step

pub returns-clause-goes_on : goal.returns-clause-goes_on
returns-clause-goes_on g c = c.records.invariant.0

pub returns-clause-step : goal.returns-clause-step
returns-clause-step g c = record { at = c.records.invariant.1; same = c.records.invariant.2; fewer = omega (arith, c.records.invariant.3) }

pub returns-in-Leave-clause-leaves : goal.returns-in-Leave-clause-leaves
returns-in-Leave-clause-leaves c = grind (arith, common_steps)

pub returns-in-Err-clause-step : goal.returns-in-Err-clause-step
returns-in-Err-clause-step c = grind (arith, common_steps)

pub returns-in-EndProvider-clause-leaves : goal.returns-in-EndProvider-clause-leaves
returns-in-EndProvider-clause-leaves c = grind (arith, common_steps)

pub returns-in-Err-clause-goes_on : goal.returns-in-Err-clause-goes_on
returns-in-Err-clause-goes_on c = grind (arith, common_steps)
