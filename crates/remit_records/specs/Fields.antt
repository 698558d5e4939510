-- The fields of a record that a CSV writer renders one by one.
use Rattle.std.specs.Prelude.{◌≡◌, ◌≢◌, ◌==◌, ◌-◌, ◌^◌, ℕ, Bool, not, List, [], ◌++◌, length, min}
use Rattle.std.specs.Global.{Vec}
use Rattle.std.specs.List.{list_any}
use Rattle.csv.specs.Writing.{field_text, fields_written, has_written, row_body, row_text, writer_pending, writer_setup, writer_under}
use Rattle.csv.specs.declared.writer.QuoteStyle.TheVariants.{NonNumeric}
use Rattle.csv.specs.declared.writer.Writer.{Writer}
use Rattle.csv.specs.declared.writer.WriterBuilder.{WriterBuilder}

-- what the writer has rendered
abbrev pub rendered_in : Writer (Vec ℕ) → List ℕ
rendered_in line = (writer_under line).items ++ writer_pending line

-- whether the text of a field has a byte
abbrev pub shows : WriterBuilder → List ℕ → Bool
shows style field = not (length (field_text style field) == 0)

-- the writer has rendered this text, and then these first fields of a record, in this style
pub record HasFields (style : WriterBuilder) (before : List ℕ) (fields : List (List ℕ)) (line : Writer (Vec ℕ)) : Type 0 where
  pub setup : writer_setup line ≡ style
  pub plain : style.style ≢ NonNumeric
  pub text : rendered_in line ≡ before ++ row_body style fields
  pub count : fields_written line ≡ min (length fields) (2 ^ 64 - 1)
  pub shown : has_written line ≡ list_any (shows style) fields

-- the fields are appended to those of the record
abbrev pub Pushes : Writer (Vec ℕ) → Writer (Vec ℕ) → List (List ℕ) → Type 0
Pushes old new fields =
    (style : WriterBuilder) (before : List ℕ) (earlier : List (List ℕ)) → HasFields style before earlier old → HasFields style before (earlier ++ fields) new

-- the record is ended, and the next one has no field yet
abbrev pub Ends : Writer (Vec ℕ) → Writer (Vec ℕ) → Type 0
Ends old new =
    (style : WriterBuilder) (before : List ℕ) (fields : List (List ℕ)) → HasFields style before fields old → HasFields style (before ++ row_text style fields) [] new
