use Rattle.intake_csv.proofs.Books.{begun_none, begun_some}
use Rattle.std.proofs.Common.{sym, ◌∙◌}
use Rattle.intake_csv.proofs.balances.Balances.of.Goals as goal

pub returns-in-Some : goal.returns-in-Some
returns-in-Some c =
    let found = rw c.in-Some.is at c.find.ensures.found in
    c.opening.ensures ∙ begun_some c.args.self.now c.args.family.now c.args.member.now c.args.year c.in-Some.family_year.now c.find.ensures.once (sym found)

pub returns-in-None : goal.returns-in-None
returns-in-None c =
    let found = rw c.in-None.is at c.find.ensures.found in
    c.zero.ensures ∙ begun_none c.args.self.now c.args.family.now c.args.member.now c.args.year c.find.ensures.once (sym found)
