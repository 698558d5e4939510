-- The roles that the key `roles` of a plan's document denotes.
use Rattle.std.specs.Prelude.{◌≡◌, ℕ, Bool, true, false, not, ◌&&◌, List, Option, Some, None, IsTrue}
use Rattle.std.specs.List.{list_any}
use Rattle.std.specs.Str.{bytes_eq}
use Rattle.toml.specs.Data.{Data, string, get}
use Rattle.faults.specs.declared.role_key.RoleKey.{RoleKey}
use Rattle.faults.specs.declared.role_key.RoleKey.TheVariants as keys
use Rattle.faults.specs.RoleKeys.{key_of}
use Rattle.fixpoint.specs.Money.{IsMoney, IsRate}
use Rattle.feel_tests.specs.declared.kind.Kind.{Kind}
use Rattle.feel_tests.specs.declared.kind.Kind.TheVariants as kinds
use Rattle.feel_tests.specs.declared.value.Value.{Value}
use Rattle.feel_tests.specs.declared.value.Value.TheVariants as values
use Rattle.feel_tests.specs.Cell.{SpellsValue}
use Rattle.feel_tests.specs.Value.{kind_of}
use Rattle.tables.specs.declared.roles.FamilyRoles.{FamilyRoles}
use Rattle.tables.specs.declared.roles.Roles.{Roles}
use Rattle.tables.specs.declared.roles.Source.{Source}
use Rattle.tables.specs.declared.roles.Source.TheVariants.{Literal, Input, Output}
use Rattle.dtable.specs.declared.reading.roles.Benefits.{Benefits}
use Rattle.dtable.specs.declared.reading.roles.RoleKind.{RoleKind}
use Rattle.dtable.specs.declared.reading.roles.RoleKind.TheVariants.{Flag, Money, Rate, Texts}
use Rattle.dtable.specs.declared.reading.roles.Shares.{Shares}
use Rattle.tables.specs.declared.table.InputData.{InputData}
use Rattle.tables.specs.declared.table.Origin.TheVariants.{Given, Earlier}
use Rattle.dtable.specs.Document.{string_at, Optionally}
use Rattle.tables.specs.Plan.{same_kind}
use Rattle.dtable.specs.Scope.{SeenOutput, origin_of, kind_at}

-- what the value of a role must be
abbrev pub asked_by : RoleKey → RoleKind
asked_by keys.Cover = Flag
asked_by keys.Fee = Money
asked_by keys.Deductible = Money
asked_by keys.Copay = Money
asked_by keys.Rate = Rate
asked_by keys.OopMax = Money
asked_by keys.Remarks = Texts
asked_by keys.FamilyDeductible = Money
asked_by keys.FamilyOopMax = Money

-- the kind of a required value
abbrev pub asked_kind : RoleKind → Kind
asked_kind Flag = kinds.Flag
asked_kind Money = kinds.Number
asked_kind Rate = kinds.Number
asked_kind Texts = kinds.Text

-- the value meets the requirement: any flag, an amount of money, or a rate
abbrev pub Meets : RoleKind → Value → Type 0
Meets Flag value = Unit {0}
Meets Money (values.Number units) = IsMoney units
Meets Rate (values.Number units) = IsRate units
Meets _ _ = ⊥

-- the text denotes a literal that meets the requirement
pub record IsLiteralSource (asked : RoleKind) (text : List ℕ) (value : Value) : Type 0 where
  pub spelled : SpellsValue (asked_kind asked) text value
  pub of_kind : kind_of value ≡ asked_kind asked
  pub meets : Meets asked value

-- the text is the name of input data of the kind
pub record IsInputSource (names : List InputData) (earlier : List (List SeenOutput)) (kind : Kind) (text : List ℕ) (place : ℕ) : Type 0 where
  pub known : origin_of names earlier text ≡ Some (Given place)
  pub of_kind : kind_at names earlier (Given place) ≡ Some kind

-- the text is the name of an output of the kind with a single value
pub record IsOutputSource (names : List InputData) (earlier : List (List SeenOutput)) (kind : Kind) (text name : List ℕ) : Type 0 where
  pub same : name ≡ text
  pub table : ℕ
  pub column : ℕ
  pub known : origin_of names earlier text ≡ Some (Earlier table column)
  pub of_kind : kind_at names earlier (Earlier table column) ≡ Some kind

-- the text is the name of a single value of the kind
abbrev pub IsNamedSource : List InputData → List (List SeenOutput) → Kind → List ℕ → Source → Type 0
IsNamedSource names earlier kind text (Literal value) = ⊥
IsNamedSource names earlier kind text (Input place) = IsInputSource names earlier kind text place
IsNamedSource names earlier kind text (Output name) = IsOutputSource names earlier kind text name

-- the text does not denote a literal of the kind
abbrev pub SpellsNone : Kind → List ℕ → Type 0
SpellsNone kind text = (value : Value) → ¬ SpellsValue kind text value

-- a role's string: a literal that meets the requirement, or otherwise the name of a single value of
-- that kind
abbrev pub IsSource : List InputData → List (List SeenOutput) → RoleKind → List ℕ → Source → Type 0
IsSource names earlier asked text (Literal value) = IsLiteralSource asked text value
IsSource names earlier asked text (Input place) = SpellsNone (asked_kind asked) text × IsNamedSource names earlier (asked_kind asked) text (Input place)
IsSource names earlier asked text (Output name) = SpellsNone (asked_kind asked) text × IsNamedSource names earlier (asked_kind asked) text (Output name)

-- the string at a role's key denotes this source
pub record IsRole (names : List InputData) (earlier : List (List SeenOutput)) (role : RoleKey) (roles : Data) (source : Source) : Type 0 where
  pub text : List ℕ
  pub written : string_at (key_of role) roles ≡ Some text
  pub spelled : IsSource names earlier (asked_by role) text source

-- an output with this name lists texts
abbrev pub lists_texts : List (List SeenOutput) → List ℕ → Bool
lists_texts earlier name = list_any (λ os. list_any (λ o. bytes_eq o.name name && (not o.is_single && same_kind kinds.Text o.kind)) os) earlier

-- the string of `remarks`: the name of an output that lists texts
pub record AreRemarks (earlier : List (List SeenOutput)) (entry : Data) (name : List ℕ) : Type 0 where
  pub written : entry ≡ string name
  pub lists : IsTrue (lists_texts earlier name)

-- the roles for the coverage of a claim: a flag and two amounts of money
pub record AreBenefits (names : List InputData) (earlier : List (List SeenOutput)) (entry : Data) (benefits : Benefits) : Type 0 where
  pub cover : IsRole names earlier keys.Cover entry benefits.cover
  pub fee : IsRole names earlier keys.Fee entry benefits.fee
  pub deductible : IsRole names earlier keys.Deductible entry benefits.deductible

-- the roles for the cost share of a member: an amount of money, a rate, and the out-of-pocket
-- maximum
pub record AreShares (names : List InputData) (earlier : List (List SeenOutput)) (entry : Data) (shares : Shares) : Type 0 where
  pub copay : IsRole names earlier keys.Copay entry shares.copay
  pub rate : IsRole names earlier keys.Rate entry shares.rate
  pub oop_max : IsRole names earlier keys.OopMax entry shares.oop_max

-- the limits of the family: two amounts of money
pub record AreLimits (names : List InputData) (earlier : List (List SeenOutput)) (entry : Data) (limits : FamilyRoles) : Type 0 where
  pub deductible : IsRole names earlier keys.FamilyDeductible entry limits.deductible
  pub oop_max : IsRole names earlier keys.FamilyOopMax entry limits.oop_max

-- the limits of the family if the plan has families, and none otherwise, whatever the keys are
abbrev pub AreFamilyRoles : Bool → List InputData → List (List SeenOutput) → Data → Option FamilyRoles → Type 0
AreFamilyRoles false names earlier entry None = Unit {0}
AreFamilyRoles false names earlier entry (Some limits) = ⊥
AreFamilyRoles true names earlier entry None = ⊥
AreFamilyRoles true names earlier entry (Some limits) = AreLimits names earlier entry limits

-- the table `roles`: a flag, amounts of money and a rate, the output of the remarks, if any, and
-- the limits of the family if the plan has families
pub record AreRoles (families : Bool) (names : List InputData) (earlier : List (List SeenOutput)) (entry : Data) (roles : Roles) : Type 0 where
  pub cover : IsRole names earlier keys.Cover entry roles.cover
  pub fee : IsRole names earlier keys.Fee entry roles.fee
  pub deductible : IsRole names earlier keys.Deductible entry roles.deductible
  pub copay : IsRole names earlier keys.Copay entry roles.copay
  pub rate : IsRole names earlier keys.Rate entry roles.rate
  pub oop_max : IsRole names earlier keys.OopMax entry roles.oop_max
  pub remarks : Optionally (AreRemarks earlier) (get (key_of keys.Remarks) entry) roles.remarks
  pub family : AreFamilyRoles families names earlier entry roles.family
