use Rattle.std.proofs.Common.{drop}
use Rattle.std.proofs.lemmas.Result.{err_from_is_err_and}
use Rattle.csv.specs.Records.{fields_of}
use Rattle.intake_csv.specs.Columns.{IsFile}
use Rattle.intake_csv.specs.Records.{records_of}
use Rattle.intake_csv.proofs.AllRecords.{has-header, no-records}
use Rattle.intake_csv.proofs.Headers.{columns-within, file-fault}
use Rattle.intake_csv.proofs.headered_file.read_headered_file.Goals as goal

pub returns-then-not-branch-clause-fault : goal.returns-then-not-branch-clause-fault
returns-then-not-branch-clause-fault c =
    let reads = rw (c.new-records.ensures, c.if-not-branch.true) at c.in_ok-read.ensures.reads in
    (c.if-text-gt-FILE_LIMIT_BYTES.false, no-records c.args.text.now c.read.new.self (fields_of c.read.new.row) reads)

pub returns-in_err-columns-clause-fault : goal.returns-in_err-columns-clause-fault
returns-in_err-columns-clause-fault c =
    let reads = rw (c.new-records.ensures, c.if-not-branch.false) at c.in_ok-read.ensures.reads in
    let header = fields_of c.read.new.row in
    let file : IsFile c.args.text.now header (drop 1 (records_of c.args.text.now)) =
    record { small = c.if-text-gt-FILE_LIMIT_BYTES.false; read = has-header c.args.text.now c.read.new.self header reads } in
    let p = err_from_is_err_and c.from_residual-in_err-columns.result c.from_residual-in_err-columns.ensures.1 in
    rw (p.1, p.2) (file-fault c.args.needed.now c.args.text.now header (drop 1 (records_of c.args.text.now)) file _ c.in_err-columns.ensures.fault)

pub returns-clause-ok : goal.returns-clause-ok
returns-clause-ok c =
    let reads = rw (c.new-records.ensures, c.if-not-branch.false) at c.in_ok-read.ensures.reads in
    let header = fields_of c.read.new.row in
    record {
      is_headered_file = record {
        header = header;
        file = record { small = c.if-text-gt-FILE_LIMIT_BYTES.false; read = has-header c.args.text.now c.read.new.self header reads };
        width = c.len.ensures;
        columns = c.in_ok-columns.ensures.ok;
      };
      within = rw c.len.ensures (columns-within header c.args.needed.now c.in_ok-columns.columns c.in_ok-columns.ensures.ok);
      small = c.if-text-gt-FILE_LIMIT_BYTES.false;
      records = reads.1;
    }
