use Rattle.std.proofs.Common.{arith}
use Rattle.std.proofs.lemmas.Grind.{common_steps}
use Rattle.dtable.proofs.reading.names.are_name_bytes.Goals as goal

pub loop-byte-preserved : goal.loop-byte-preserved
loop-byte-preserved c = grind (arith, common_steps)

pub returns-then-not-is_name_byte : goal.returns-then-not-is_name_byte
returns-then-not-is_name_byte c = grind (arith, common_steps)
