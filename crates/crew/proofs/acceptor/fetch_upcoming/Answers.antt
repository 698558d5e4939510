use Rattle.std.proofs.Common.{refl, arith}
use Rattle.std.proofs.lemmas.Grind.{common_steps}
use Rattle.gate_calls.proofs.Passes.{unchanged}
use Rattle.crew.proofs.acceptor.fetch_upcoming.Goals as goal

pub returns-then-fetched-gt0-clause-goes_on : goal.returns-then-fetched-gt0-clause-goes_on
returns-then-fetched-gt0-clause-goes_on g c = unchanged (g.G.Gate.has_pass c.args.shared.now.gate.now) g.G.Gate.known c.args.pass c.args.pass c.requires.own refl

pub returns-clause-leaves : goal.returns-clause-leaves
returns-clause-leaves c = grind (arith, common_steps)

pub returns-clause-goes_on : goal.returns-clause-goes_on
returns-clause-goes_on c = grind (arith, common_steps)
