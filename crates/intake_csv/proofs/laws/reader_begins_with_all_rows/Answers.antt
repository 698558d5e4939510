use Rattle.intake_csv.specs.Columns.{claim_columns}
use Rattle.intake_csv.proofs.OneFile.{headered_file-one}
use Rattle.intake_csv.proofs.laws.reader_begins_with_all_rows.Goals as goal

pub returns : goal.returns
returns c names text left rows start all =
    let same = headered_file-one (claim_columns names) text left.layout all.layout left.records all.records start.headered_file all.headered_file in
    rw (same.0, same.1, start.number, start.place) all.are_rows
