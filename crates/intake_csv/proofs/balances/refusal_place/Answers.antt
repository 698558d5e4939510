use Rattle.std.proofs.Common.{rules}
use Rattle.intake_csv.proofs.balances.refusal_place.Goals as goal

pub returns-in-Oop : goal.returns-in-Oop
returns-in-Oop c = search rules
