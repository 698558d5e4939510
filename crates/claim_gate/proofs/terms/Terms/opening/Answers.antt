use Rattle.std.proofs.Common.{rules}
use Rattle.claim_gate.proofs.terms.Terms.opening.Goals as goal

pub returns-in-Some : goal.returns-in-Some
returns-in-Some c = search rules
