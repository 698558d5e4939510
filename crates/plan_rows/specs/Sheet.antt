-- CSV texts (RFC 4180): commas, quotes only around fields that need them, and CRLF after each record.
use Rattle.std.specs.Prelude.{◌≡◌, ℕ, false, List, ◌++◌, flat_map}
use Rattle.std.specs.Global.{Vec}
use Rattle.csv.specs.Writing.{default_writer, fields_written, has_written, row_text, with_terminator, writer_pending, writer_setup, writer_under}
use Rattle.csv.specs.declared.parser.Terminator.TheVariants.{CRLF}
use Rattle.csv.specs.declared.writer.Writer.{Writer}
use Rattle.csv.specs.declared.writer.WriterBuilder.{WriterBuilder}
use Rattle.intake_csv.specs.Records.{Fields}

-- how records are written
abbrev pub sheet_style : WriterBuilder
sheet_style = with_terminator default_writer CRLF

-- the text of a record with its line end
unfoldable pub record_text : Fields → List ℕ
record_text fields = row_text sheet_style fields

-- the text of records
abbrev pub text_of : List Fields → List ℕ
text_of records = flat_map record_text records

-- the writer has written this text, and no record is unfinished
pub record HasText (writer : Writer (Vec ℕ)) (text : List ℕ) : Type 0 where
  pub setup : writer_setup writer ≡ sheet_style
  pub fields : fields_written writer ≡ 0
  pub clean : has_written writer ≡ false
  pub text_is : (writer_under writer).items ++ writer_pending writer ≡ text
