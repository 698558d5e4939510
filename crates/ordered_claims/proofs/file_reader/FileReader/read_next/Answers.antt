use Rattle.std.proofs.Common.{refl}
use Rattle.ordered_claims.proofs.Reading.{one_read, over_read}
use Rattle.ordered_claims.proofs.file_reader.FileReader.read_next.Goals as goal

pub returns-in_default-clause-reads : goal.returns-in_default-clause-reads
returns-in_default-clause-reads c = over_read c.args.self.now _ c.requires.works c.requires.works (rw c.in_default.is at c.in_ok-claim.ensures) refl refl

pub returns-clause-reads : goal.returns-clause-reads
returns-clause-reads c =
    one_read c.args.self.now _ c.in-Some.claim c.requires.works c.requires.works c.requires.more (rw c.in-Some.is at c.in_ok-claim.ensures) c.in_ok-push_back.ensures.items refl
