use Rattle.ordered_claims.specs.ReadAhead.{ReadsAhead}
use Rattle.ordered_claims.proofs.file_reader.FileReader.read_ahead.Given as goal

-- the claims that are read so far
abbrev pub invariant-claims : goal.invariant-claims
invariant-claims l = ReadsAhead l.initial.self l.self
