use Rattle.std.proofs.Common.{arith}
use Rattle.std.proofs.lemmas.Grind.{elements}
use Rattle.tables.proofs.inputs.Inputs.set_number.Goals as goal

pub index_mut-requires : goal.index_mut-requires
index_mut-requires c = grind (arith, elements)

pub returns : goal.returns
returns c = grind (arith, elements)
