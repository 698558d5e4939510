use Rattle.std.proofs.Common.{refl}
use Rattle.gate_calls.proofs.Passes.{unchanged}
use Rattle.crew.proofs.fetching.NoFetchingFetching.fetch.Goals as goal

pub returns-clause-goes_on : goal.returns-clause-goes_on
returns-clause-goes_on g c = unchanged (g.G.Gate.has_pass c.args.gate.now) g.G.Gate.known c.args.pass c.args.pass c.requires refl
