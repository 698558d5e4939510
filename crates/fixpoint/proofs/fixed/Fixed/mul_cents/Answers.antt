use Rattle.std.proofs.lemmas.Grind.{common_steps}
use Rattle.std.proofs.Common.{SomeIff, rules, arith}
use Rattle.fixpoint.specs.Money.{cents_of_product}
use Rattle.fixpoint.specs.Number.{IsInRange}
use Rattle.fixpoint.proofs.NearestCents.{rounded_where_exact}
use Rattle.fixpoint.proofs.fixed.Fixed.mul_cents.Goals as goal

pub returns-in-Ok-clause-rounded : goal.returns-in-Ok-clause-rounded
returns-in-Ok-clause-rounded c =
    let units = cents_of_product c.args.self c.args.rate in
    let exact : SomeIff c.from_units.result (IsInRange units) units = search rules in
    rounded_where_exact c.args.self c.args.rate c.from_units.result (IsInRange units) exact

pub returns-in-Ok-clause-exact : goal.returns-in-Ok-clause-exact
returns-in-Ok-clause-exact c =
    let units = cents_of_product c.args.self c.args.rate in
    let exact : SomeIff c.from_units.result (IsInRange units) units = search rules in
    exact

pub returns-in-Err-clause-exact : goal.returns-in-Err-clause-exact
returns-in-Err-clause-exact c = grind (arith, common_steps)
