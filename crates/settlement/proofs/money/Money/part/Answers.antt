use Rattle.std.proofs.Common.{◌≡◌, ◌≤ℤ◌, ℤ, Option, sym, subst, arith}
use Rattle.std.proofs.lemmas.Grind.{common_steps}
use Rattle.std.specs.Option.{SomeIff}
use Rattle.fixpoint.specs.Money.{cents_of_product}
use Rattle.fixpoint.specs.Number.{IsInRange}
use Rattle.settlement.proofs.MoneyLaws.{part_is_amount}
use Rattle.settlement.proofs.money.Money.part.Goals as goal

pub returns-clause-within : goal.returns-clause-within
returns-clause-within c =
    let part = part_is_amount c.self.inside.amount c.number.result c.self.invariant c.number.ensures.rate in
    let product = cents_of_product c.self.inside.amount c.number.result in
    let exact = subst (λ (o : Option ℤ). SomeIff o (IsInRange product) product) c.unwrap.ensures c.mul_cents.ensures.exact in
    let is : c.unwrap.result ≡ product = exact.1 in
    subst (λ (amount : ℤ). c.unwrap.result ≤ℤ amount) c.self.view_is (subst (λ (part : ℤ). part ≤ℤ c.self.inside.amount) (sym is) part.within)

pub unwrap-requires : goal.unwrap-requires
unwrap-requires c = grind (arith, common_steps)
