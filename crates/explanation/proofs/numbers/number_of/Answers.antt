use Rattle.std.proofs.Common.{arith}
use Rattle.std.proofs.lemmas.Grind.{elements}
use Rattle.explanation.proofs.numbers.number_of.Goals as goal

pub number_in-requires-clause-reader : goal.number_in-requires-clause-reader
number_in-requires-clause-reader c = grind (arith, elements)

pub returns-clause-readers : goal.returns-clause-readers
returns-clause-readers c = grind (arith, elements)
