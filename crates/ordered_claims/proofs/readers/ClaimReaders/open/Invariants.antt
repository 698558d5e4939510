use Rattle.ordered_claims.proofs.Keeping.{AreOpened}
use Rattle.ordered_claims.proofs.readers.ClaimReaders.open.Given as goal

-- the files before this place are opened
abbrev pub invariant-files : goal.invariant-files
invariant-files l = AreOpened l.terms l.place l.files.items
