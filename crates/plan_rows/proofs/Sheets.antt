-- A CSV text that grows by records.
use Rattle.std.proofs.Common.{◌≡◌, ◌≢◌, ℕ, false, List, [], ◌++◌, ap, ap₂, ◌∙◌}
use Rattle.std.specs.Global.{Vec}
use Rattle.csv.specs.Writing.{fields_written, has_written, row_text, writer_pending, writer_setup, writer_under}
use Rattle.csv.specs.declared.writer.QuoteStyle.TheVariants.{NonNumeric}
use Rattle.csv.specs.declared.writer.Writer.{Writer}
use Rattle.intake_csv.specs.Records.{Fields}
use Rattle.plan_rows.specs.Sheet.{HasText, record_text, sheet_style}

-- nothing is written yet
pub no_text : (writer : Writer (Vec ℕ)) (under : Vec ℕ) → writer_under writer ≡ under → under.items ≡ [] → writer_pending writer ≡ [] → writer_setup writer ≡ sheet_style
    → fields_written writer ≡ 0 → has_written writer ≡ false → HasText writer []
no_text writer under is none pending setup fields clean =
    record { setup = setup; fields = fields; clean = clean; text_is = ap₂ (λ (v : Vec ℕ) rest. v.items ++ rest) is pending ∙ ap (λ t. t ++ []) none }

-- a record is written, by the contract of the CSV writer
pub record_written : (old new : Writer (Vec ℕ)) (fields : Fields) (text : List ℕ)
    → (fields_written old ≡ 0 → has_written old ≡ false → (writer_setup old).style ≢ NonNumeric
    → (writer_under new).items ++ writer_pending new ≡ ((writer_under old).items ++ writer_pending old) ++ row_text (writer_setup old) fields)
    → fields_written new ≡ 0 → has_written new ≡ false → writer_setup new ≡ writer_setup old → HasText old text → HasText new (text ++ record_text fields)
unfolding record_text
record_written old new fields text bytes ended clean same h =
    let plain : (writer_setup old).style ≢ NonNumeric = λ other. cc (ap (λ s. s.style) h.setup, other) in
    record {
      setup = same ∙ h.setup;
      fields = ended;
      clean = clean;
      text_is = rw h.setup at (bytes h.fields h.clean plain) ∙ ap (λ t. t ++ row_text sheet_style fields) h.text_is;
    }
