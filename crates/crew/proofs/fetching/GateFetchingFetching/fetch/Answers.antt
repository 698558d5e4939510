use Rattle.gate_calls.proofs.Passes.{after_section, leaves_worn}
use Rattle.crew.proofs.fetching.GateFetchingFetching.fetch.Goals as goal

pub returns-in-Ok-clause-goes_on : goal.returns-in-Ok-clause-goes_on
returns-in-Ok-clause-goes_on g c = after_section (g.G.Gate.has_pass c.args.gate.now) g.G.Gate.known c.args.pass c.in-Ok.pass c.in-Ok.ensures.served

pub returns-in-Err-clause-leaves : goal.returns-in-Err-clause-leaves
returns-in-Err-clause-leaves g c =
    leaves_worn (g.G.Gate.has_pass c.args.gate.now) g.G.Gate.known g.G.Gate.is_worn c.args.pass c.in-Err.worn.pass c.in-Err.ensures.worn
