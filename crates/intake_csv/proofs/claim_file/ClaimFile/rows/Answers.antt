use Rattle.std.proofs.Common.{◌≡◌, [], ◌∷◌, drop, ap, arith, length}
use Rattle.csv.specs.Records.{fields_of}
use Rattle.intake_csv.specs.Records.{records_of}
use Rattle.intake_csv.proofs.AllRecords.{no-records}
use Rattle.intake_csv.proofs.OneFile.{file-one}
use Rattle.intake_csv.proofs.claim_file.ClaimFile.rows.Goals as goal

-- the file has a header, so it has a record
pub unreachable-requires : goal.unreachable-requires
unreachable-requires c =
    let text = c.self.inside.text.now in
    let headered_file = c.self.invariant.under in
    let reads = rw (c.new-records.ensures, c.if-not-branch.true) at c.in_ok-read.ensures.reads in
    let none = no-records text c.read.new.self (fields_of c.read.new.row) reads in
    let same : headered_file.header ∷ drop 1 (records_of text) ≡ [] = file-one text (headered_file.header ∷ drop 1 (records_of text)) [] headered_file.file.read none in
    absurd (omega (arith, ap length same))

pub after_header-requires-clause-within : goal.after_header-requires-clause-within
after_header-requires-clause-within c = rw c.in_ok-layout.ensures c.self.invariant.within

pub after_header-requires-clause-columns : goal.after_header-requires-clause-columns
after_header-requires-clause-columns c = rw c.in_ok-layout.ensures c.self.invariant.columns
