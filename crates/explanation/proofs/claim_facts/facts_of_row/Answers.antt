use Rattle.std.proofs.Common.{arith}
use Rattle.std.proofs.lemmas.Grind.{common_steps}
use Rattle.explanation.proofs.Rows.{row_filed}
use Rattle.explanation.proofs.claim_facts.facts_of_row.Goals as goal

pub facts_of_claim-requires-clause-there : goal.facts_of_claim-requires-clause-there
facts_of_claim-requires-clause-there c =
    let place = c.args.place in
    row_filed c.args.terms.now place.provider place.number _ _ _ c.requires.there.least c.requires.there.most (rw c.in-Good.is at c.requires.row)

pub returns-in-Good : goal.returns-in-Good
returns-in-Good c = grind (arith, common_steps)

pub returns-in-Bad : goal.returns-in-Bad
returns-in-Bad c = grind (arith, common_steps)
