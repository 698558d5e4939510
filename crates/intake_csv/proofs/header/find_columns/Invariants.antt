use Rattle.std.proofs.Common.{take}
use Rattle.csv.specs.Records.{fields_of}
use Rattle.intake_csv.specs.Header.{AreFound}
use Rattle.intake_csv.proofs.header.find_columns.Given as goal

abbrev pub invariant-loop-column : goal.invariant-loop-column
invariant-loop-column l = AreFound (fields_of l.header) (take l.column-index l.needed) l.found
