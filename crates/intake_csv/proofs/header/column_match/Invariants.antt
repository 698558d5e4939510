use Rattle.std.proofs.Common.{take}
use Rattle.csv.specs.Records.{fields_of}
use Rattle.intake_csv.specs.Header.{MatchesAs}
use Rattle.intake_csv.proofs.header.column_match.Given as goal

abbrev pub invariant-loop-place : goal.invariant-loop-place
invariant-loop-place l = MatchesAs l.name (take l.place (fields_of l.header)) l.present
