use Rattle.std.proofs.Common.{arith}
use Rattle.std.proofs.lemmas.Grind.{elements}
use Rattle.cutplan.proofs.TextSearch.{other_at}
use Rattle.cutplan.proofs.lookup.has_at.Goals as goal

pub has-requires : goal.has-requires
has-requires c = λ names other.
    let found = c.in-Some.ensures.lookup in
    c.requires names (other_at c.args.regions.now c.args.place c.in-Some.region.now names found.0 found.1 other)

pub returns-in-Some : goal.returns-in-Some
returns-in-Some c = grind (arith, elements)

pub returns-in-None : goal.returns-in-None
returns-in-None c = grind (arith, elements)
