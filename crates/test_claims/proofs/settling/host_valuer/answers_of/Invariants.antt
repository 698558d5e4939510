use Rattle.std.proofs.Common.{◌≡◌, [], drop}
use Rattle.tables.specs.Environment.{answers_of}
use Rattle.test_claims.proofs.settling.host_valuer.answers_of.Given as goal

abbrev pub invariant-loop-table : goal.invariant-loop-table
invariant-loop-table l = answers_of l.inputs l.answers (drop l.table-index l.tables) ≡ answers_of l.inputs [] l.tables
