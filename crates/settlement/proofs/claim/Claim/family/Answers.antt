use Rattle.std.proofs.Common.{rules}
use Rattle.settlement.proofs.claim.Claim.family.Goals as goal

pub returns-in-Some : goal.returns-in-Some
returns-in-Some c = search rules
