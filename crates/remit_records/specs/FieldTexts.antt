-- The texts of the remittance's fields.
use Rattle.std.specs.Prelude.{ℕ, List, codes}
use Rattle.std.specs.List.{join_by}
use Rattle.faults.specs.ReasonText.{numbered}
use Rattle.faults.specs.declared.file_fault.RowCause.{RowCause}
use Rattle.faults.specs.declared.file_fault.RowCause.TheVariants.{FieldCount, Utf8, TooLong, EmptyId, Value, NotCents, Negative, Repeated, Sum}
use Rattle.faults.specs.declared.file_fault.RowFault.{RowFault}

-- the reason of a refused record, by its cause and its column; a wrong number of fields is in no column
abbrev pub cause_text : RowCause → ℕ → List ℕ
cause_text FieldCount column = codes "fieldcount"
cause_text Utf8 column = numbered (codes "utf8") column
cause_text TooLong column = numbered (codes "toolong") column
cause_text EmptyId column = numbered (codes "emptyid") column
cause_text Value column = numbered (codes "value") column
cause_text NotCents column = numbered (codes "notcents") column
cause_text Negative column = numbered (codes "negative") column
cause_text Repeated column = numbered (codes "repeated") column
cause_text Sum column = numbered (codes "sum") column

-- the reason of a record that is refused for this fault
abbrev pub fault_text : RowFault → List ℕ
fault_text fault = cause_text fault.cause fault.column

-- the remarks, unchanged and separated by semicolons
abbrev pub remarks_text : List (List ℕ) → List ℕ
remarks_text remarks = join_by (λ remark. remark) (codes ";") remarks
