use Rattle.std.proofs.Common.{arith}
use Rattle.std.proofs.lemmas.Grind.{common_steps}
use Rattle.test_gate.proofs.tests.filing.read_through.Goals as goal

pub go_to_end-requires-clause-reader : goal.go_to_end-requires-clause-reader
go_to_end-requires-clause-reader g c = grind (arith, common_steps)
