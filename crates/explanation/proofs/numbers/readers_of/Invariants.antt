use Rattle.explanation.proofs.RecordNumbers.{AreBegun}
use Rattle.explanation.proofs.numbers.readers_of.Given as goal

-- the files before this place have readers
abbrev pub invariant-files : goal.invariant-files
invariant-files l = AreBegun l.terms l.place l.readers.items
