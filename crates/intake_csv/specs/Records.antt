-- The records of a text (RFC 4180, section 2), as `csv` reads them: fields are separated by commas
-- and quoted by double quotes, a record ends with CRLF, LF or a lone CR, spaces are not trimmed, a
-- record may have any number of fields, and no record is treated as a header.
use Rattle.std.specs.Prelude.{◌≡◌, ◌+◌, ◌∷◌, ℕ, Bool, true, false, List, [], drop}
use Rattle.csv.specs.Reading.{AreRecords, default_config, records, strip_bom}
use Rattle.csv.specs.declared.parser.State.TheVariants as state
use Rattle.intake_csv.specs.declared.records.Stage.{Stage}
use Rattle.intake_csv.specs.declared.records.Stage.TheVariants.{Reading, Over, Failed}

-- memory ran out
abbrev pub is_failed : Stage → Bool
is_failed Reading = false
is_failed Over = false
is_failed Failed = true

-- the fields of a record
abbrev pub Fields : Type 0
Fields = List (List ℕ)

-- these are the records of the text without a byte order mark at its start
abbrev pub AreRecordsOf : List ℕ → List Fields → Type 0
AreRecordsOf text rows = AreRecords default_config state.StartRecord (strip_bom text) rows

-- the records of the text
unfoldable pub records_of : List ℕ → List Fields
records_of text = records default_config (strip_bom text)

-- a reader of records in contracts: its text, the number of records that it has returned, and its
-- stage
pub record RecordsLeft : Type 0 where
  pub text : List ℕ
  pub given : ℕ
  pub stage : Stage

-- the remaining records of a reader
abbrev pub remaining : RecordsLeft → List Fields
remaining left = drop left.given (records_of left.text)

-- the result of a read for which memory suffices: the first remaining record, or none, after which
-- the reader is over
abbrev pub Reads : RecordsLeft → RecordsLeft → Bool → Fields → Type 0
Reads old new true fields = (remaining old ≡ fields ∷ remaining new) × (new ≡ record old { given = old.given + 1 }) × (old.stage ≡ Reading)
Reads old new false fields = (remaining old ≡ []) × (new ≡ record old { stage = Over }) × (is_failed old.stage ≡ false)
