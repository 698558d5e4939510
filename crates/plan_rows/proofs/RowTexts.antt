-- The texts of the rows of a file, one after another.
use Rattle.std.proofs.Common.{◌≡◌, ◌∷◌, ◌++◌, ℕ, true, false, Bor, List, [], refl, sym, ap, subst, ◌∙◌, append_assoc, append-nil}
use Rattle.std.specs.Global.{Vec}
use Rattle.std.specs.List.{AllZip}
use Rattle.std.proofs.lemmas.List.{flat_map_more}
use Rattle.csv.specs.declared.reader.Reader.{Reader}
use Rattle.csv.specs.declared.writer.Writer.{Writer}
use Rattle.evaluation.specs.declared.stop.ValueStop.TheVariants as value
use Rattle.intake_csv.proofs.Lists.{AllZip-grow}
use Rattle.intake_csv.specs.Reader.{HasLeft}
use Rattle.intake_csv.specs.Records.{Fields, records_of}
use Rattle.tables.specs.Plan.{PlanParts}
use Rattle.plan_rows.specs.declared.columns.Column.{Column}
use Rattle.plan_rows.specs.declared.rows_stop.RowsFault.TheVariants.{Repeated, Taken}
use Rattle.plan_rows.specs.declared.rows_stop.RowsStop.{RowsStop}
use Rattle.plan_rows.specs.declared.rows_stop.RowsStop.TheVariants.{Value, Rows}
use Rattle.plan_rows.specs.Columns.{fault_word}
use Rattle.plan_rows.specs.Reading.{ReadsFrom}
use Rattle.plan_rows.specs.RowsStop.{RefusesHeader, RefusesRows}
use Rattle.plan_rows.specs.Sheet.{HasText, record_text, text_of}
use Rattle.plan_rows.specs.ValuedRows.{IsTextUnder, IsValued, output_names}
use Rattle.plan_rows.specs.WrittenRows.{HasWrittenAll}

-- some of the rows were read and their records written after a text, and the reader has the other rows
pub record HasWritten (plan : PlanParts) (columns : List Column) (rows : List Fields) (text : List ℕ) (reader : Reader (Bor (List ℕ))) (writer : Writer (Vec ℕ)) : Type 0 where
  pub read : List Fields
  pub left : List Fields
  pub split : rows ≡ read ++ left
  pub remain : HasLeft reader left
  pub records : List Fields
  pub valued : AllZip (IsValued plan columns) read records
  pub written : HasText writer (text ++ text_of records)

module _ (plan : PlanParts) (columns : List Column) (rows : List Fields) (text : List ℕ) (reader : Reader (Bor (List ℕ))) (writer : Writer (Vec ℕ)) where
  -- no row is written yet
  pub none_written : HasLeft reader rows → HasText writer text → HasWritten plan columns rows text reader writer
  none_written left has =
      record { read = []; left = rows; split = refl; remain = left; records = []; valued = tt; written = subst (HasText writer) (sym (append-nil text)) has }

  -- one more row is written
  pub one_more_written : (new : Reader (Bor (List ℕ))) (grown : Writer (Vec ℕ)) (fields line : Fields) → HasWritten plan columns rows text reader writer
      → ((left : List Fields) → HasLeft reader left → ReadsFrom left true fields new) → IsValued plan columns fields line
      → ((before : List ℕ) → HasText writer before → HasText grown (before ++ record_text line)) → HasWritten plan columns rows text new grown
  one_more_written new grown fields line so_far reads valued writes =
      let next = reads so_far.left so_far.remain in
      record {
        read = so_far.read ++ fields ∷ [];
        left = next.0;
        split = so_far.split ∙ ap (λ others. so_far.read ++ others) next.1 ∙ sym (append_assoc so_far.read (fields ∷ []) next.0);
        remain = next.2;
        records = so_far.records ++ line ∷ [];
        valued = AllZip-grow (IsValued plan columns) so_far.read so_far.records fields line so_far.valued valued;
        written = subst (HasText grown) (flat_map_more record_text text so_far.records line) (writes (text ++ text_of so_far.records) so_far.written);
      }

  -- all rows are written
  pub all_written : (new : Reader (Bor (List ℕ))) (fields : Fields) → HasWritten plan columns rows text reader writer
      → ((left : List Fields) → HasLeft reader left → ReadsFrom left false fields new) → HasWrittenAll plan columns rows text writer
  all_written new fields so_far reads =
      let same : rows ≡ so_far.read = so_far.split ∙ ap (λ others. so_far.read ++ others) (reads so_far.left so_far.remain) ∙ append-nil so_far.read in
      record { records = so_far.records; valued = subst (λ all. AllZip (IsValued plan columns) all so_far.records) (sym same) so_far.valued; written = so_far.written }

-- the record of the header, of which each part is appended
pub header_line : (start first second third header names : Fields) (fault : List ℕ) → start ≡ [] → first ≡ start ++ header → second ≡ first ++ names → third ≡ second ++ fault ∷ []
    → third ≡ header ++ (names ++ fault ∷ [])
header_line start first second third header names fault none one two three =
    three ∙ ap (λ fields. fields ++ fault ∷ []) (two ∙ ap (λ fields. fields ++ names) (one ∙ ap (λ fields. fields ++ header) none)) ∙ append_assoc header names (fault ∷ [])

-- the text of the header and of all rows
pub whole_text : (plan : PlanParts) (header : Fields) (columns : List Column) (rows : List Fields) (names : List (List ℕ)) (writer : Writer (Vec ℕ)) (bytes : List ℕ)
    → names ≡ output_names plan.tables → HasWrittenAll plan columns rows ([] ++ record_text (header ++ (names ++ fault_word ∷ []))) writer
    → ((text : List ℕ) → HasText writer text → bytes ≡ text) → IsTextUnder plan header columns rows bytes
whole_text plan header columns rows names writer bytes are all is =
    let front = ap (λ outputs. record_text (header ++ (outputs ++ fault_word ∷ []))) are in
    record { records = all.records; valued = all.valued; joined = is _ all.written ∙ ap (λ first. first ++ text_of all.records) front }

-- an error of the header is one of the file
pub refuses_rows : (plan : PlanParts) (text : List ℕ) (header : Fields) (rows : List Fields) (s : RowsStop) → records_of text ≡ header ∷ rows → RefusesHeader plan header s
    → RefusesRows plan text s
refuses_rows plan text header rows (Value (value.Missing name)) split refused = record { header = header; rows = rows; split = split; refused = refused }
refuses_rows plan text header rows (Value value.NoMemory) split refused = tt
refuses_rows plan text header rows (Rows (Repeated column)) split refused = record { header = header; rows = rows; split = split; refused = refused }
refuses_rows plan text header rows (Rows (Taken column)) split refused = record { header = header; rows = rows; split = split; refused = refused }
refuses_rows plan text header rows _ split refused = absurd refused
