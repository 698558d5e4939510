use Rattle.std.proofs.Common.{refl, ◌∙◌, arith}
use Rattle.std.proofs.lemmas.Grind.{common_steps}
use Rattle.gate_calls.proofs.Passes.{further, leaves_later, unchanged}
use Rattle.crew.proofs.acceptor.offer_turns.Goals as goal

pub turns-init : goal.turns-init
turns-init g c = (
  unchanged (g.G.Gate.has_pass c.args.shared.now.gate.now) g.G.Gate.known c.args.pass c.args.pass c.requires.own refl,
  record { at = c.requires.at; read = refl },
)

pub offer_turn-requires-clause-own : goal.offer_turn-requires-clause-own
offer_turn-requires-clause-own g c κs within = c.turns.invariant.0.own

pub offer_turn-requires-clause-at : goal.offer_turn-requires-clause-at
offer_turn-requires-clause-at g c κs within = c.turns.invariant.1.at

pub returns-in-Err-clause-leaves : goal.returns-in-Err-clause-leaves
returns-in-Err-clause-leaves g c =
    leaves_later (g.G.Gate.has_pass c.args.shared.now.gate.now) g.G.Gate.known g.G.Gate.is_worn c.args.pass c.turns.pass c.in-Err.exit c.turns.invariant.0 c.in-Err.ensures.leaves

pub turns-preserved : goal.turns-preserved
turns-preserved g c =
    let on = c.in-Ok.ensures in
    let offered = rw c.in-NextClaim.is at on.step in (
      further (g.G.Gate.has_pass c.args.shared.now.gate.now) g.G.Gate.known c.args.pass c.turns.pass c.in-Ok.onward.pass c.turns.invariant.0 on.goes_on,
      record { at = offered.between.at; read = offered.between.read ∙ c.turns.invariant.1.read },
    )

pub turns-smaller : goal.turns-smaller
turns-smaller g c =
    let offered = rw c.in-NextClaim.is at c.in-Ok.ensures.step in
    offered.fewer

pub returns-then-ends_round-clause-goes_on : goal.returns-then-ends_round-clause-goes_on
returns-then-ends_round-clause-goes_on g c =
    further (g.G.Gate.has_pass c.args.shared.now.gate.now) g.G.Gate.known c.args.pass c.turns.pass c.in-Ok.onward.pass c.turns.invariant.0 c.in-Ok.ensures.goes_on

pub returns-then-ends_round-clause-offered : goal.returns-then-ends_round-clause-offered
returns-then-ends_round-clause-offered g c =
    let offered = rw c.in-NextClaim.is at c.in-Ok.ensures.step in
    record { at = offered.between.at; read = offered.between.read ∙ c.turns.invariant.1.read }

pub returns-in-ReadOn-clause-goes_on : goal.returns-in-ReadOn-clause-goes_on
returns-in-ReadOn-clause-goes_on g c =
    further (g.G.Gate.has_pass c.args.shared.now.gate.now) g.G.Gate.known c.args.pass c.turns.pass c.in-Ok.onward.pass c.turns.invariant.0 c.in-Ok.ensures.goes_on

pub returns-in-ReadOn-clause-offered : goal.returns-in-ReadOn-clause-offered
returns-in-ReadOn-clause-offered g c =
    let between = rw c.in-ReadOn.is at c.in-Ok.ensures.step in
    record { at = between.at; read = between.read ∙ c.turns.invariant.1.read }

pub returns-in-EndProviders-clause-goes_on : goal.returns-in-EndProviders-clause-goes_on
returns-in-EndProviders-clause-goes_on g c =
    further (g.G.Gate.has_pass c.args.shared.now.gate.now) g.G.Gate.known c.args.pass c.turns.pass c.in-Ok.onward.pass c.turns.invariant.0 c.in-Ok.ensures.goes_on

pub returns-in-EndProviders-clause-offered : goal.returns-in-EndProviders-clause-offered
returns-in-EndProviders-clause-offered g c = rw c.in-EndProviders.is at c.in-Ok.ensures.step

pub returns-in-Leave-clause-goes_on : goal.returns-in-Leave-clause-goes_on
returns-in-Leave-clause-goes_on g c =
    further (g.G.Gate.has_pass c.args.shared.now.gate.now) g.G.Gate.known c.args.pass c.turns.pass c.in-Ok.onward.pass c.turns.invariant.0 c.in-Ok.ensures.goes_on

pub returns-in-Leave-clause-offered : goal.returns-in-Leave-clause-offered
returns-in-Leave-clause-offered g c = rw c.in-Leave.is at c.in-Ok.ensures.step

pub returns-then-ends_round-clause-leaves : goal.returns-then-ends_round-clause-leaves
returns-then-ends_round-clause-leaves c = grind (arith, common_steps)

pub returns-in-Err-clause-goes_on : goal.returns-in-Err-clause-goes_on
returns-in-Err-clause-goes_on c = grind (arith, common_steps)

pub returns-in-Err-clause-offered : goal.returns-in-Err-clause-offered
returns-in-Err-clause-offered c = grind (arith, common_steps)

pub returns-in-Leave-clause-leaves : goal.returns-in-Leave-clause-leaves
returns-in-Leave-clause-leaves c = grind (arith, common_steps)

pub returns-in-ReadOn-clause-leaves : goal.returns-in-ReadOn-clause-leaves
returns-in-ReadOn-clause-leaves c = grind (arith, common_steps)

pub returns-in-EndProviders-clause-leaves : goal.returns-in-EndProviders-clause-leaves
returns-in-EndProviders-clause-leaves c = grind (arith, common_steps)
