use Rattle.std.proofs.lemmas.Grind.{common_steps}
use Rattle.std.proofs.Common.{rules, arith}
use Rattle.intake_csv.proofs.Books.{found_within, found_beyond}
use Rattle.intake_csv.proofs.balances.Balances.find.Goals as goal

pub returns-clause-found : goal.returns-clause-found
returns-clause-found c = search (rules, found_within, found_beyond)

pub returns-then-place-len-clause-found : goal.returns-then-place-len-clause-found
returns-then-place-len-clause-found c = grind (arith, common_steps)
