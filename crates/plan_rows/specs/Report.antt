-- What the command `test` prints, and when the rows of a file are right.
use Rattle.std.specs.Prelude.{◌≡◌, ◌≢◌, ◌≤◌, ◌<◌, ◌^◌, ◌⊎◌, ◌+◌, ℕ, ◌++◌, Bool, true, false, cond, List, [], ◌∷◌, codes, decimal, length, Option, Some, None, slice_get}
use Rattle.std.specs.List.{AllZip, count_by, list_all}
use Rattle.dtable.specs.PlanFile.{IsPlanText}
use Rattle.intake_csv.specs.Limits.{file_limit_bytes}
use Rattle.intake_csv.specs.Records.{Fields, records_of}
use Rattle.settlement.specs.declared.acc.Acc.{Acc}
use Rattle.settlement.specs.declared.claim.Claim.{Claim}
use Rattle.settlement.specs.declared.outcome.Outcome.{Outcome}
use Rattle.settlement.specs.Settlement.{outcome}
use Rattle.tables.specs.declared.inputs.Slot.{Slot}
use Rattle.tables.specs.declared.table.InputData.{InputData}
use Rattle.tables.specs.Environment.{env}
use Rattle.tables.specs.Inputs.{IsReady}
use Rattle.tables.specs.Plan.{PlanParts}
use Rattle.plan_rows.specs.declared.columns.Column.{Column}
use Rattle.plan_rows.specs.declared.finding.Finding.{Finding}
use Rattle.plan_rows.specs.declared.judging.Judged.{Judged}
use Rattle.plan_rows.specs.declared.judging.Judgement.{Judgement}
use Rattle.plan_rows.specs.declared.judging.Judgement.TheVariants.{Right, Wrong, Refused}
use Rattle.plan_rows.specs.declared.report.Counts.{Counts}
use Rattle.plan_rows.specs.declared.testing.Tested.{Tested}
use Rattle.plan_rows.specs.declared.testing.Tested.TheVariants.{AllRight, Differing}
use Rattle.plan_rows.specs.Columns.{AreColumns, GivesNeeded, settles}
use Rattle.plan_rows.specs.Filing.{IsFiledBy, IsUnfit}
use Rattle.plan_rows.specs.Given.{GivesRow, IsUnreadAt}
use Rattle.plan_rows.specs.Lines.{IsRowText, MeetsRow, printed, row_start}
use Rattle.plan_rows.specs.Readable.{IsReadable, IsUnreadableAt}

-- the row gives a value to each name that is needed, its expectations can be read, and these are all of its values
pub record HasValues (plan : PlanParts) (columns : List Column) (fields : Fields) (given : List Slot) : Type 0 where
  pub width : length fields ≡ length columns
  pub readable : AllZip (IsReadable plan) columns fields
  pub gives : GivesRow plan.names columns fields given
  pub ready : IsReady plan.tables given

-- the outcome by the plan of the claim that has these values, if the rows are settled
abbrev pub IsSettledAs : PlanParts → List Column → List Slot → Option Outcome → Type 0
IsSettledAs plan columns given None = settles plan columns ≡ false
IsSettledAs plan columns given (Some decided) =
    (settles plan columns ≡ true) × ((claim : Claim) × (acc : Acc) × IsFiledBy plan given claim acc × (decided ≡ outcome plan claim acc))

-- what the plan gives for these values
pub record IsFinding (plan : PlanParts) (columns : List Column) (given : List Slot) (finding : Finding) : Type 0 where
  pub tables : finding.tables ≡ env plan given
  pub settled : IsSettledAs plan columns given finding.settled

-- what the plan gives for the values of a row
pub record IsFindingOf (plan : PlanParts) (columns : List Column) (fields : Fields) (finding : Finding) : Type 0 where
  pub given : List Slot
  pub has : HasValues plan columns fields given
  pub is_finding : IsFinding plan columns given finding

-- the row is right: what the plan gives for its values meets each expectation
pub record IsRight (plan : PlanParts) (columns : List Column) (fields : Fields) : Type 0 where
  pub finding : Finding
  pub found : IsFindingOf plan columns fields finding
  pub meets : MeetsRow finding columns fields

-- the row is wrong, and its text has a line for each expectation that is not met
pub record IsWrong (number : ℕ) (plan : PlanParts) (columns : List Column) (fields : Fields) (text : List ℕ) : Type 0 where
  pub finding : Finding
  pub found : IsFindingOf plan columns fields finding
  pub is_text : IsRowText number finding columns fields text
  pub some : text ≢ []

-- the line of a row that has another number of fields than the header
abbrev pub width_line : ℕ → List ℕ
width_line number = row_start number ++ codes "another number of fields than the header\n"

-- the line of a row with a field that can't be read
abbrev pub unread_line : ℕ → List ℕ → List ℕ
unread_line number name = row_start number ++ (printed name ++ codes " can't be read\n")

-- a row is refused with this line
pub record IsRefusedBy (line : List ℕ) (judged : Judged) : Type 0 where
  pub refused : judged.judgement ≡ Refused
  pub is_line : judged.text.items ≡ line

-- a row is refused with the line that a field of the column at an index can't be read
pub record IsUnreadIn (number : ℕ) (columns : List Column) (place : ℕ) (judged : Judged) : Type 0 where
  pub column : Column
  pub present : slice_get columns place ≡ Some column
  pub by : IsRefusedBy (unread_line number column.name.now) judged

-- a row is refused with the line that the name at an index has no value of a claim
pub record IsUnfitIn (number : ℕ) (plan : PlanParts) (place : ℕ) (judged : Judged) : Type 0 where
  pub input : InputData
  pub present : slice_get plan.names place ≡ Some input
  pub by : IsRefusedBy (unread_line number input.name) judged

-- the field of a column gives no value of the name's kind, or is an expectation that cannot be read
abbrev pub IsBadField : PlanParts → List Column → Fields → ℕ → Type 0
IsBadField plan columns fields place = IsUnreadAt plan.names columns fields place ⊎ IsUnreadableAt plan columns fields place

-- a field of the row can't be read, and the line has the name of its column
pub record IsUnreadRow (number : ℕ) (plan : PlanParts) (columns : List Column) (fields : Fields) (text : List ℕ) : Type 0 where
  pub width : length fields ≡ length columns
  pub place : ℕ
  pub bad : IsBadField plan columns fields place
  pub column : Column
  pub present : slice_get columns place ≡ Some column
  pub line : text ≡ unread_line number column.name.now

-- the rows are settled, the row's value of a name is none that a claim can have, and the line has the name
pub record IsUnfitRow (number : ℕ) (plan : PlanParts) (columns : List Column) (fields : Fields) (text : List ℕ) : Type 0 where
  pub settled : settles plan columns ≡ true
  pub given : List Slot
  pub has : HasValues plan columns fields given
  pub place : ℕ
  pub unfit : IsUnfit plan given place
  pub input : InputData
  pub present : slice_get plan.names place ≡ Some input
  pub line : text ≡ unread_line number input.name

-- the row is refused: it has another number of fields than the header, a field that can't be read, or a value that no claim can have
abbrev pub IsRefused : ℕ → PlanParts → List Column → Fields → List ℕ → Type 0
IsRefused number plan columns fields text =
    ((length fields ≢ length columns) × (text ≡ width_line number)) ⊎ (IsUnreadRow number plan columns fields text ⊎ IsUnfitRow number plan columns fields text)

-- the judgement of a row, and its text
abbrev pub IsJudged : ℕ → PlanParts → List Column → Fields → Judgement → List ℕ → Type 0
IsJudged number plan columns fields Right text = IsRight plan columns fields × (text ≡ [])
IsJudged number plan columns fields Wrong text = IsWrong number plan columns fields text
IsJudged number plan columns fields Refused text = IsRefused number plan columns fields text

-- the judgements of rows that are numbered from a number on, and their texts one after another
abbrev pub AreJudged : ℕ → PlanParts → List Column → List Fields → List Judgement → List ℕ → Type 0
AreJudged number plan columns [] [] text = text ≡ []
AreJudged number plan columns (fields ∷ rows) (judgement ∷ judgements) text =
    (first : List ℕ) × (rest : List ℕ) × IsJudged number plan columns fields judgement first
    × AreJudged (number + 1) plan columns rows judgements rest × (text ≡ first ++ rest)
AreJudged number plan columns _ _ text = ⊥

abbrev pub is_right : Judgement → Bool
is_right Right = true
is_right Wrong = false
is_right Refused = false

abbrev pub is_wrong : Judgement → Bool
is_wrong Right = false
is_wrong Wrong = true
is_wrong Refused = false

abbrev pub is_refused : Judgement → Bool
is_refused Right = false
is_refused Wrong = false
is_refused Refused = true

-- the number of rows by their judgement
abbrev pub counts_of : List Judgement → Counts
counts_of judgements = record {
  rows = length judgements;
  right = count_by is_right judgements;
  wrong = count_by is_wrong judgements;
  refused = count_by is_refused judgements;
}

-- one more row can be counted
pub record CanGrow (counts : Counts) : Type 0 where
  pub judgements : List Judgement
  pub counted : counts ≡ counts_of judgements
  pub room : length judgements + 1 < 2 ^ 64

-- words and a number
abbrev pub count_text : List ℕ → ℕ → List ℕ
count_text words count = words ++ decimal count

-- the last line: `rows N right R wrong W refused X`
abbrev pub counts_line : Counts → List ℕ
counts_line counts =
    count_text (codes "rows ") counts.rows ++ (count_text (codes " right ") counts.right
    ++ (count_text (codes " wrong ") counts.wrong ++ (count_text (codes " refused ") counts.refused ++ codes "\n")))

-- whether there is a row, and all rows are right
abbrev pub tested_of : List Judgement → Tested
tested_of [] = Differing
tested_of (judgement ∷ judgements) = cond (list_all is_right (judgement ∷ judgements)) AllRight Differing

-- the text for these rows: the lines of each row, and the counts
pub record IsReport (plan : PlanParts) (columns : List Column) (rows : List Fields) (tested : Tested) (text : List ℕ) : Type 0 where
  pub judgements : List Judgement
  pub lines : List ℕ
  pub judged : AreJudged 1 plan columns rows judgements lines
  pub joined : text ≡ lines ++ counts_line (counts_of judgements)
  pub tested_is : tested ≡ tested_of judgements

-- the text for these records, of which the first one is the header
pub record IsTextOfRecords (plan : PlanParts) (records : List Fields) (tested : Tested) (text : List ℕ) : Type 0 where
  pub header : Fields
  pub rows : List Fields
  pub split : records ≡ header ∷ rows
  pub columns : List Column
  pub are_columns : AreColumns plan header columns
  pub needed : GivesNeeded plan columns
  pub is_report : IsReport plan columns rows tested text

-- the text that the command prints for a plan and the text of a file of tests
pub record IsTextOf (plan : PlanParts) (cases : List ℕ) (tested : Tested) (text : List ℕ) : Type 0 where
  pub small : length cases ≤ file_limit_bytes
  pub is_text : IsTextOfRecords plan (records_of cases) tested text

-- the text that the command prints for the plan that the plan's text denotes
pub record IsTestText (plan_text cases : List ℕ) (tested : Tested) (text : List ℕ) : Type 0 where
  pub plan : PlanParts
  pub spelled : IsPlanText plan_text plan
  pub is_text : IsTextOf plan cases tested text

-- the text that the command prints, whether all rows are right or not
abbrev pub IsSomeTestText : List ℕ → List ℕ → List ℕ → Type 0
IsSomeTestText plan_text cases text = (tested : Tested) × IsTestText plan_text cases tested text
