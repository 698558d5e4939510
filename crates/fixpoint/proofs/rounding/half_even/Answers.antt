use Rattle.std.proofs.Common.{rules}
use Rattle.fixpoint.proofs.rounding.half_even.Goals as goal

pub returns-else-rest-gt-MILLION : goal.returns-else-rest-gt-MILLION
returns-else-rest-gt-MILLION c = search rules
