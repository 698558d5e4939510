-- The remittance of a run: a CSV text (RFC 4180) for the rows of the providers' files and a journal.
use Rattle.std.specs.Prelude.{◌≡◌, ℕ, List, [], ◌∷◌, ◌++◌, flat_map}
use Rattle.std.specs.List.{AllZip}
use Rattle.csv.specs.Writing.{default_writer, row_text, with_terminator}
use Rattle.csv.specs.declared.parser.Terminator.TheVariants.{CRLF}
use Rattle.csv.specs.declared.writer.WriterBuilder.{WriterBuilder}
use Rattle.intake_csv.specs.Rows.{AreRowsOf}
use Rattle.intake_csv.specs.declared.rows.Row.{Row}
use Rattle.journal.specs.declared.event.Event.{Event}
use Rattle.claim_gate.specs.Terms.{TermsParts}
use Rattle.remit_records.specs.Decided.{decided_as}
use Rattle.remit_records.specs.Records.{Deciding, header_fields, records_of, total_fields}

-- the style of the remittance: commas, quotes only around fields that need them, and CRLF after each record
abbrev pub report_style : WriterBuilder
report_style = with_terminator default_writer CRLF

-- the text of a record with its line end
unfoldable pub record_text : List (List ℕ) → List ℕ
record_text fields = row_text report_style fields

-- the text of records
abbrev pub text_of : List (List (List ℕ)) → List ℕ
text_of records = flat_map record_text records

-- the decisions of a journal under a plan of this version
abbrev pub reported_by_journal : ℕ → List Event → Deciding
reported_by_journal version J = record { version = version; decided = decided_as J }

-- the records of the remittance: the header, one for each row of each provider's file, and the totals
abbrev pub report_records : ℕ → List Event → List (List Row) → List (List (List ℕ))
report_records version J files = header_fields version ∷ (records_of (reported_by_journal version J) 1 files ++ total_fields version J ∷ [])

-- the bytes are the remittance of these terms and this journal
pub record IsReport (parts : TermsParts) (J : List Event) (bytes : List ℕ) : Type 0 where
  pub files : List (List Row)
  pub are_rows : AllZip (AreRowsOf parts.plan.names) parts.files files
  pub bytes_are : bytes ≡ text_of (report_records parts.plan.version J files)
