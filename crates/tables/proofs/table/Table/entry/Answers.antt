use Rattle.std.proofs.Common.{arith}
use Rattle.std.proofs.lemmas.Grind.{elements}
use Rattle.tables.proofs.table.Table.entry.Goals as goal

pub returns : goal.returns
returns c = grind (arith, elements)
