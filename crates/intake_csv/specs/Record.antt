-- The results of the steps that read a record.
use Rattle.std.specs.Prelude.{◌≡◌, ◌<◌, ◌≤◌, ◌⊎◌, ℕ, Bool, true, false, List, [], ◌∷◌, ◌++◌, map, Option, Some, None, is_some}
use Rattle.std.specs.Option.{IfSome}
use Rattle.std.specs.List.{All}
use Rattle.feel_tests.specs.declared.kind.Kind.{Kind}
use Rattle.feel_tests.specs.declared.kind.Kind.TheVariants as kinds
use Rattle.feel_tests.specs.declared.value.Value.{Value}
use Rattle.feel_tests.specs.declared.value.Value.TheVariants.{Number, Text, Day}
use Rattle.settlement.specs.declared.claim.Claim.{Claim}
use Rattle.intake_csv.specs.Columns.{kind_under}
use Rattle.intake_csv.specs.declared.column.Content.{Content}
use Rattle.intake_csv.specs.declared.column.Content.TheVariants.{Identifier, Money, Plain}
use Rattle.intake_csv.specs.declared.column.Layout.{Layout}
use Rattle.faults.specs.declared.file_fault.RowFault.{RowFault}
use Rattle.intake_csv.specs.declared.column.Column.{Column}
use Rattle.intake_csv.specs.Records.{Fields}
use Rattle.intake_csv.specs.Rows.{AreValues, IsFaultlessUnder, IsFirstFault, claim_values}

-- the least fault is the leftmost of the earlier fault, if there is one, and this one
abbrev pub IsLeftmost : Option RowFault → RowFault → RowFault → Type 0
IsLeftmost first fault least = ((first ≡ Some least) × (least.column ≤ fault.column))
    ⊎ ((least ≡ fault) × IfSome first (λ f. fault.column < f.column))

-- the column has any values of its kind
abbrev pub IsPlain : Column → Type 0
IsPlain column = column.content ≡ Plain (kind_under column.content)

-- the content of the family's column, if there is one
abbrev pub family_contents : Bool → List Content
family_contents true = Identifier ∷ []
family_contents false = []

-- the contents of the columns of a claim file, which has a column for the family or not, and has
-- fields of these kinds
abbrev pub claim_contents : Bool → List Kind → List Content
claim_contents families fields = Identifier ∷ (family_contents families ++ Identifier ∷ Plain kinds.Day ∷ Money ∷ map Plain fields)

-- the layout is that of a claim file, which has a column for the family or not
abbrev pub IsClaimLayout : Bool → Layout → Type 0
IsClaimLayout families layout = (fields : List Kind) × (map (λ c. c.content) layout.columns ≡ claim_contents families fields)

-- the columns are those of a claim file from the member onwards
abbrev pub AreFromMember : List Column → Type 0
AreFromMember columns = (fields : List Kind) × (map (λ c. c.content) columns ≡ Identifier ∷ Plain kinds.Day ∷ Money ∷ map Plain fields)

-- the claim has this identifier and family, and the columns have its other values, from the member
-- onwards
pub record GoesOnAs (fields : Fields) (columns : List Column) (id : List ℕ) (family : Option (List ℕ)) (claim : Claim) : Type 0 where
  pub id_is : claim.id ≡ id
  pub family_is : claim.family ≡ family
  pub values : AreValues fields columns (Text claim.member ∷ Day claim.service ∷ Number claim.billed ∷ claim.fields)

-- the values are those of a claim, which has a family if there is a column for it
pub record IsClaimShaped (families : Bool) (values : List Value) : Type 0 where
  pub claim : Claim
  pub has_family : is_some claim.family ≡ families
  pub values_are : values ≡ claim_values claim

-- the result of reading these columns: their values if they have no fault, and otherwise the first
-- fault
abbrev pub SoFar : Fields → List Column → List Value → Option RowFault → Type 0
SoFar fields columns values None = AreValues fields columns values × All (IsFaultlessUnder fields) columns
SoFar fields columns values (Some fault) = IsFirstFault fields columns fault
