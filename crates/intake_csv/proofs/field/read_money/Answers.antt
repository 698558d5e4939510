use Rattle.std.proofs.Common.{rules, refl}
use Rattle.fixpoint.specs.Money.{IsCents}
use Rattle.fixpoint.specs.NumberText.{Denotes}
use Rattle.intake_csv.proofs.Amounts.{below_zero, money_read}
use Rattle.intake_csv.proofs.field.read_money.Goals as goal

pub returns-in-Some : goal.returns-in-Some
returns-in-Some c =
    let denotes : Denotes c.args.text.now c.in-Ok.amount = search rules in
    rw c.in-Some.ensures.1 (money_read c.text_denotes_at_most_one.ensures c.args.text.now c.in-Ok.amount c.requires denotes c.in-Some.ensures.0)

pub returns-in-None : goal.returns-in-None
returns-in-None c =
    let cents : IsCents c.in-Ok.amount = search rules in
    let denotes : Denotes c.args.text.now c.in-Ok.amount = search rules in
    (refl, record { text = c.requires; units = c.in-Ok.amount; denotes = denotes; cents = cents; below = below_zero c.in-Ok.amount cents c.in-None.ensures })
