-- The text of a record that is the first of its writer.
use Rattle.std.proofs.Common.{◌≡◌, ℕ, List, [], ◌∙◌, append-nil}
use Rattle.std.specs.Global.{Vec}
use Rattle.csv.specs.Writing.{row_text}
use Rattle.csv.specs.declared.writer.Writer.{Writer}
use Rattle.remit_records.specs.Fields.{HasFields, rendered_in}
use Rattle.remit_records.specs.Report.{record_text, report_style}

-- once the record is ended, its text is all that is rendered
pub text-ended : (line : Writer (Vec ℕ)) (text : List ℕ) (fields : List (List ℕ)) → text ≡ rendered_in line → HasFields report_style (row_text report_style fields) [] line
    → text ≡ record_text fields
unfolding record_text
text-ended line text fields is has = is ∙ has.text ∙ append-nil (row_text report_style fields)
