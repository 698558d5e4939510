-- The summary of a row: the places of the fields that identify the claim, or the fault.
use Rattle.std.specs.Prelude.{◌≡◌, ℕ, ℤ, IsUtf8, List, Option, Some, None}
use Rattle.csv.specs.Records.{field_at}
use Rattle.feel_tests.specs.Plain.{SpellsPlain}
use Rattle.feel_tests.specs.declared.kind.Kind.TheVariants as kinds
use Rattle.feel_tests.specs.declared.value.Value.TheVariants.{Day}
use Rattle.settlement.specs.declared.claim.Claim.{Claim}
use Rattle.intake_csv.specs.Records.{Fields}
use Rattle.intake_csv.specs.Rows.{Gives, IsHead, RowsLeft}
use Rattle.intake_csv.specs.declared.row_summary.RowSummary.{RowSummary}
use Rattle.intake_csv.specs.declared.row_summary.RowSummary.TheVariants as summary
use Rattle.intake_csv.specs.declared.row_summary.IdColumns.{IdColumns}
use Rattle.intake_csv.specs.declared.rows.Row.{Row}
use Rattle.intake_csv.specs.declared.rows.Row.TheVariants.{Good, Bad}

-- the field at the place is the text
abbrev pub IsLocatedAt : Fields → ℕ → List ℕ → Type 0
IsLocatedAt fields place text = field_at fields place ≡ Some text

-- the field at the place is the text, or there is neither a place nor a text
abbrev pub MayBeLocatedAt : Fields → Option ℕ → Option (List ℕ) → Type 0
MayBeLocatedAt fields None None = Unit {0}
MayBeLocatedAt fields (Some place) (Some text) = IsLocatedAt fields place text
MayBeLocatedAt fields _ _ = ⊥

-- the field at the place is a text that denotes the date
pub record IsDayLocatedAt (fields : Fields) (place : ℕ) (day : ℤ) : Type 0 where
  pub bytes : List ℕ
  pub field : field_at fields place ≡ Some bytes
  pub text : IsUtf8 bytes
  pub spells : SpellsPlain kinds.Day bytes (Day day)

-- these are the places of the claim's identifier, family, member and date of service
pub record AreIdColumnsOf (fields : Fields) (id_columns : IdColumns) (claim : Claim) : Type 0 where
  pub id : IsLocatedAt fields id_columns.id claim.id
  pub family : MayBeLocatedAt fields id_columns.family claim.family
  pub member : IsLocatedAt fields id_columns.member claim.member
  pub service : IsDayLocatedAt fields id_columns.service claim.service

-- the summary is that of the row of the record
abbrev pub IsSummaryOf : Fields → RowSummary → Row → Type 0
IsSummaryOf fields (summary.Good n p id_columns) (Good number place claim) = (n ≡ number) × (p ≡ place) × AreIdColumnsOf fields id_columns claim
IsSummaryOf fields (summary.Bad n f) (Bad number fault) = (n ≡ number) × (f ≡ fault)
IsSummaryOf fields _ _ = ⊥

-- the summary is that of the row, or there is neither a summary nor a row
abbrev pub Reports : Fields → Option RowSummary → Option Row → Type 0
Reports fields None None = Unit {0}
Reports fields (Some reported) (Some row) = IsSummaryOf fields reported row
Reports fields _ _ = ⊥

-- the reader returns the summary of its next row
pub record GivesSummary (old new : RowsLeft) (fields : Fields) (reported : Option RowSummary) : Type 0 where
  pub row : Option Row
  pub gives : Gives old new row
  pub head : IsHead old new row
  pub reports : Reports fields reported row
