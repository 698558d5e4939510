use Rattle.std.proofs.Common.{rules}
use Rattle.intake_csv.proofs.claim.own_columns.Goals as goal

pub returns : goal.returns
returns c = search rules
