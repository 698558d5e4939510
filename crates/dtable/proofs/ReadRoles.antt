-- The meaning of a role's string, and the strings without one.
use Rattle.std.proofs.Common.{◌≡◌, ℕ, Bool, true, false, List, Option, Some, None, Result, Ok, Err, IfOk, OnOk, OnErr, is_some, subst, sym, ◌∙◌}
use Rattle.std.proofs.lemmas.Bool.{false≢true}
use Rattle.std.proofs.lemmas.Option.{same_Some}
use Rattle.toml.specs.Data.{Data, string, integer, float, boolean, datetime, array, table, as_str, as_table}
use Rattle.feel_tests.specs.declared.kind.Kind.{Kind}
use Rattle.feel_tests.specs.declared.value.Value.{Value}
use Rattle.feel_tests.specs.Cell.{SpellsValue, SpellsOneValue}
use Rattle.feel_tests.specs.Value.{kind_of}
use Rattle.faults.specs.declared.plan_fault.PlanFault.{PlanFault}
use Rattle.faults.specs.declared.role_key.RoleKey.{RoleKey}
use Rattle.faults.specs.RoleKeys.{key_of}
use Rattle.tables.specs.declared.roles.FamilyRoles.{FamilyRoles}
use Rattle.tables.specs.declared.roles.Roles.{Roles}
use Rattle.tables.specs.declared.roles.Source.{Source}
use Rattle.tables.specs.declared.roles.Source.TheVariants.{Literal, Input, Output}
use Rattle.dtable.specs.declared.reading.roles.RoleKind.{RoleKind}
use Rattle.tables.specs.declared.table.InputData.{InputData}
use Rattle.tables.specs.declared.table.Origin.{Origin}
use Rattle.tables.specs.declared.table.Origin.TheVariants.{Given, Earlier}
use Rattle.dtable.specs.Document.{string_at}
use Rattle.dtable.specs.Reading.{Reads}
use Rattle.dtable.specs.RoleFile.{IsSource, IsNamedSource, SpellsNone, IsRole, AreFamilyRoles, AreLimits, AreRoles, Meets, asked_by, asked_kind, AreRemarks, lists_texts}
use Rattle.dtable.specs.Scope.{SeenOutput, origin_of, kind_at}
use Rattle.dtable.proofs.Exits.{same_text}

module _ (names : List InputData) (earlier : List (List SeenOutput)) where
  -- a name without a meaning, or of a value of another kind
  pub named_none : (kind : Kind) (text : List ℕ) → origin_of names earlier text ≡ None → (s : Source) → ¬ IsNamedSource names earlier kind text s
  named_none kind text none (Literal value) h = h
  named_none kind text none (Input place) h = let clash : None ≡ Some (Given place) = sym none ∙ h.known in cc
  named_none kind text none (Output name) h = let clash : None ≡ Some (Earlier h.table h.column) = sym none ∙ h.known in cc

  pub named_other_kind : (kind : Kind) (text : List ℕ) (origin : Origin) → origin_of names earlier text ≡ Some origin → ¬ (kind_at names earlier origin ≡ Some kind) → (s : Source) → ¬ IsNamedSource names earlier kind text s
  named_other_kind kind text origin known other (Literal value) h = h
  named_other_kind kind text origin known other (Input place) h =
      let same : Given place ≡ origin = same_Some (Given place) origin (sym h.known ∙ known) in
      other (subst (λ o. kind_at names earlier o ≡ Some kind) same h.of_kind)
  named_other_kind kind text origin known other (Output name) h =
      let same : Earlier h.table h.column ≡ origin = same_Some (Earlier h.table h.column) origin (sym h.known ∙ known) in
      other (subst (λ o. kind_at names earlier o ≡ Some kind) same h.of_kind)

  -- a string that is not a literal
  pub source_named : (asked : RoleKind) (text : List ℕ) → SpellsNone (asked_kind asked) text → (s : Source) → IsNamedSource names earlier (asked_kind asked) text s → IsSource names earlier asked text s
  source_named asked text none (Literal value) h = absurd h
  source_named asked text none (Input place) h = (none, h)
  source_named asked text none (Output name) h = (none, h)

  pub named_source : (asked : RoleKind) (text : List ℕ) → SpellsNone (asked_kind asked) text → (s : Source) → IsSource names earlier asked text s → IsNamedSource names earlier (asked_kind asked) text s
  named_source asked text none (Literal value) h = none value h.spelled
  named_source asked text none (Input place) h = h.1
  named_source asked text none (Output name) h = h.1

  -- a string that is a literal
  literal_unmet : SpellsOneValue → (asked : RoleKind) (text : List ℕ) (value : Value) → SpellsValue (asked_kind asked) text value → ¬ Meets asked value → (s : Source) → ¬ IsSource names earlier asked text s
  literal_unmet once asked text value spelled unmet (Literal other) h =
      let same : other ≡ value = once (asked_kind asked) text other value h.spelled spelled in
      unmet (rw same at h.meets)
  literal_unmet once asked text value spelled unmet (Input place) h = h.0 value spelled
  literal_unmet once asked text value spelled unmet (Output name) h = h.0 value spelled

  pub source_literal : SpellsOneValue → (asked : RoleKind) (text : List ℕ) (value : Value) → SpellsValue (asked_kind asked) text value → kind_of value ≡ asked_kind asked → (r : Result Source PlanFault)
      → IfOk r (λ s. s ≡ Literal value) → OnOk r (Meets asked value) → OnErr r (¬ Meets asked value) → Reads (IsSource names earlier asked text) r
  source_literal once asked text value spelled kind (Ok s) same meets unmet = rw same (record { spelled = spelled; of_kind = kind; meets = meets })
  source_literal once asked text value spelled kind (Err fault) same meets unmet = λ memory. literal_unmet once asked text value spelled unmet

  -- the string at a role's key
  pub role_made : (role : RoleKey) (asked : RoleKind) (d : Data) (text : List ℕ) → asked ≡ asked_by role → string_at (key_of role) d ≡ Some text
      → (s : Source) → IsSource names earlier asked text s → IsRole names earlier role d s
  role_made role asked d text same read s h = record { text = text; written = read; spelled = subst (λ a. IsSource names earlier a text s) same h }

  pub role_source : (role : RoleKey) (asked : RoleKind) (d : Data) (text : List ℕ) → asked ≡ asked_by role → string_at (key_of role) d ≡ Some text
      → (s : Source) → IsRole names earlier role d s → IsSource names earlier asked text s
  role_source role asked d text by read s h =
      let same : h.text ≡ text = same_Some h.text text (sym h.written ∙ read) in
      subst (λ a. IsSource names earlier a text s) (sym by) (subst (λ t. IsSource names earlier (asked_by role) t s) same h.spelled)

  pub no_role : (role : RoleKey) (d : Data) → string_at (key_of role) d ≡ None → (s : Source) → ¬ IsRole names earlier role d s
  no_role role d none s h = let clash : None ≡ Some h.text = sym none ∙ h.written in cc

  -- the family's limits exist only if the plan has families
  pub no_limits_kept : (families : Bool) (d : Data) → families ≡ false → AreFamilyRoles families names earlier d None
  no_limits_kept false d kept = tt
  no_limits_kept true d kept = cc

  pub limits_kept : (families : Bool) (d : Data) (limits : FamilyRoles) → families ≡ true → AreLimits names earlier d limits → AreFamilyRoles families names earlier d (Some limits)
  limits_kept false d limits kept h = cc
  limits_kept true d limits kept h = h

  pub no_limits : (families : Bool) (d : Data) → families ≡ true → ((limits : FamilyRoles) → ¬ AreLimits names earlier d limits) → (o : Option FamilyRoles) → ¬ AreFamilyRoles families names earlier d o
  no_limits false d kept none o h = cc
  no_limits true d kept none None h = h
  no_limits true d kept none (Some limits) h = none limits h

  -- a value that is not a table has no roles
  pub no_table : (families : Bool) (d : Data) → is_some (as_table d) ≡ false → (r : Roles) → ¬ AreRoles families names earlier d r
  no_table families (string s) none r h = let clash = h.cover.written in cc
  no_table families (integer z) none r h = let clash = h.cover.written in cc
  no_table families (float x) none r h = let clash = h.cover.written in cc
  no_table families (boolean b) none r h = let clash = h.cover.written in cc
  no_table families (datetime t) none r h = let clash = h.cover.written in cc
  no_table families (array ds) none r h = let clash = h.cover.written in cc
  no_table families (table ms) none r h = false≢true (sym none)

-- a name that lists no texts
pub AreRemarks-unlisted : (earlier : List (List SeenOutput)) (d : Data) (text : List ℕ) → as_str d ≡ Some text → lists_texts earlier text ≡ false → (name : List ℕ) → ¬ AreRemarks earlier d name
AreRemarks-unlisted earlier d text read unlisted name h =
    let same : name ≡ text = sym (same_text d text name read h.written) in
    false≢true (sym unlisted ∙ subst (λ n. lists_texts earlier n ≡ true) same h.lists)
