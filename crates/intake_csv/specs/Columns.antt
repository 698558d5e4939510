-- The required columns of a file, and their places in its header.
use Rattle.std.specs.Prelude.{◌≡◌, ◌<◌, ◌≤◌, ◌+◌, ◌-◌, ℕ, Bool, true, false, List, [], ◌∷◌, ◌++◌, length, take, drop, map, Some}
use Rattle.std.specs.List.{All, AllZip, Any, count_by, slice_get}
use Rattle.std.specs.Option.{option_map_or}
use Rattle.std.specs.Str.{bytes_eq}
use Rattle.csv.specs.Records.{field_at}
use Rattle.faults.specs.BuiltInNames.{claim_name, family_name, member_name, service_name, billed_name, met_name, oop_name, paid_name, year_name}
use Rattle.feel_tests.specs.declared.kind.Kind.{Kind}
use Rattle.feel_tests.specs.declared.kind.Kind.TheVariants as kinds
use Rattle.tables.specs.Plan.{has_families, has_years}
use Rattle.tables.specs.declared.table.InputData.{InputData}
use Rattle.intake_csv.specs.Records.{Fields, AreRecordsOf}
use Rattle.intake_csv.specs.declared.column.Content.{Content}
use Rattle.intake_csv.specs.declared.column.Content.TheVariants.{Identifier, Money, Plain, Year}
use Rattle.intake_csv.specs.declared.column.RequiredColumn.{RequiredColumn}
use Rattle.intake_csv.specs.declared.column.Column.{Column}
use Rattle.intake_csv.specs.declared.column.Layout.{Layout}
use Rattle.faults.specs.declared.file_fault.FileFault.{FileFault}
use Rattle.faults.specs.declared.file_fault.FileFault.TheVariants.{TooLarge, NoHeader, MissingColumn, DuplicateColumn, OutOfMemory}
use Rattle.intake_csv.specs.Limits.{file_limit_bytes}

-- the kind of a column's values
abbrev pub kind_under : Content → Kind
kind_under Identifier = kinds.Text
kind_under Money = kinds.Number
kind_under Year = kinds.Text
kind_under (Plain kind) = kind

-- a required column with a name and a content
abbrev pub required_column : List ℕ → Content → RequiredColumn
required_column name content = record { name = name; content = content }

-- the plan with these names keeps accumulators for families: only then the second name is `family`
abbrev pub have_family : List InputData → Bool
have_family names = option_map_or (λ d. bytes_eq d.name family_name) (slice_get names 1) false

-- the number of a plan's names before its fields, with families or without them
abbrev pub names_before : Bool → ℕ
names_before false = 4
names_before true = 5

-- the number of a plan's names after its fields, with families or without them
abbrev pub names_after : Bool → ℕ
names_after false = 3
names_after true = 5

-- the fields of a plan: its names without the built-in names before and after them
abbrev pub fields_between : Bool → List InputData → List InputData
fields_between families names = take (length names - names_after families - names_before families) (drop (names_before families) names)

-- the fields of a plan, by its names alone
abbrev pub fields_among : List InputData → List InputData
fields_among names = fields_between (have_family names) names

-- the column of the family, if the plan keeps accumulators for families
abbrev pub family_columns : Bool → List RequiredColumn
family_columns true = required_column family_name Identifier ∷ []
family_columns false = []

-- the required columns of every claim
abbrev pub own_columns : Bool → List RequiredColumn
own_columns families =
    required_column claim_name Identifier ∷ (family_columns families ++ required_column member_name Identifier
    ∷ required_column service_name (Plain kinds.Day) ∷ required_column billed_name Money ∷ [])

-- the required columns of a claim file: those of every claim, and one for each field of the plan
abbrev pub claim_columns : List InputData → List RequiredColumn
claim_columns names = own_columns (have_family names) ++ map (λ d. required_column d.name (Plain d.kind)) (fields_among names)

-- the column of a balance's year, if the plan keeps accumulators by benefit year
abbrev pub year_columns : Bool → List RequiredColumn
year_columns true = required_column year_name Year ∷ []
year_columns false = []

-- the required columns of a file of balances under a plan of this version
abbrev pub balance_columns : ℕ → List RequiredColumn
balance_columns version =
    family_columns (has_families version) ++ required_column member_name Identifier
    ∷ (year_columns (has_years version) ++ required_column met_name Money ∷ required_column oop_name Money ∷ required_column paid_name Money ∷ [])

-- the place of the member's column among the required ones
abbrev pub member_place : ℕ → ℕ
member_place version = length (family_columns (has_families version))

-- the place of the column `met` among the required ones
abbrev pub met_place : ℕ → ℕ
met_place version = (member_place version + 1) + length (year_columns (has_years version))

-- the place of the column `oop` among the required ones
abbrev pub oop_place : ℕ → ℕ
oop_place version = met_place version + 1

-- the number of occurrences of the name in the header, compared byte for byte
abbrev pub times : List ℕ → Fields → ℕ
times name header = count_by (λ other. bytes_eq other name) header

-- the header has the required name exactly once, and the column has its place
pub record IsColumnOf (header : Fields) (n : RequiredColumn) (c : Column) : Type 0 where
  pub once : times n.name header ≡ 1
  pub located : field_at header c.place ≡ Some n.name
  pub content : c.content ≡ n.content

-- the header has each required name exactly once, and these are the columns in the order of the
-- required ones
abbrev pub AreColumnsOf : Fields → List RequiredColumn → List Column → Type 0
AreColumnsOf header = AllZip (IsColumnOf header)

-- the text is within the size limit, and these are its header and the records after it
pub record IsFile (text : List ℕ) (header : Fields) (records : List Fields) : Type 0 where
  pub small : length text ≤ file_limit_bytes
  pub read : AreRecordsOf text (header ∷ records)

-- the text is a file with the required columns
pub record IsHeaderedFile (required : List RequiredColumn) (text : List ℕ) (layout : Layout) (records : List Fields) : Type 0 where
  pub header : Fields
  pub file : IsFile text header records
  pub width : layout.width ≡ length header
  pub columns : AreColumnsOf header required layout.columns

-- the name does not occur in the header
abbrev pub IsMissing : Fields → RequiredColumn → Type 0
IsMissing header n = times n.name header ≡ 0

-- the name occurs in the header
abbrev pub IsThere : Fields → RequiredColumn → Type 0
IsThere header n = 0 < times n.name header

-- the name occurs more than once in the header
abbrev pub IsRepeated : Fields → RequiredColumn → Type 0
IsRepeated header n = 1 < times n.name header

-- the text is a file whose header lacks a required column
pub record LacksColumn (required : List RequiredColumn) (text : List ℕ) : Type 0 where
  pub header : Fields
  pub records : List Fields
  pub file : IsFile text header records
  pub missing : Any (IsMissing header) required

-- the text is a file whose header has all required columns, and one of them more than once
pub record RepeatsColumn (required : List RequiredColumn) (text : List ℕ) : Type 0 where
  pub header : Fields
  pub records : List Fields
  pub file : IsFile text header records
  pub all : All (IsThere header) required
  pub repeated : Any (IsRepeated header) required

-- the text is not a file with the required columns, for this reason; nothing is stated if memory
-- runs out
abbrev pub HasFileFault : List RequiredColumn → List ℕ → FileFault → Type 0
HasFileFault required text TooLarge = file_limit_bytes < length text
HasFileFault required text NoHeader = (length text ≤ file_limit_bytes) × AreRecordsOf text []
HasFileFault required text MissingColumn = LacksColumn required text
HasFileFault required text DuplicateColumn = RepeatsColumn required text
HasFileFault required text OutOfMemory = Unit {0}
