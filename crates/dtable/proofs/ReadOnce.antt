-- A text denotes at most one plan.
use Rattle.std.proofs.Common.{◌≡◌, ℕ, Bool, true, false, List, [], map, codes, Option, Some, None, refl, sym, ap, subst, ◌∙◌}
use Rattle.std.proofs.lemmas.Option.{same_Some}
use Rattle.toml.specs.Data.{Data, string, table as whole_table, get}
use Rattle.feel_tests.specs.declared.cell.Cell.{Cell}
use Rattle.feel_tests.specs.declared.value.Value.{Value}
use Rattle.faults.specs.declared.role_key.RoleKey.{RoleKey}
use Rattle.faults.specs.declared.role_key.RoleKey.TheVariants as keys
use Rattle.faults.specs.RoleKeys.{key_of}
use Rattle.feel_tests.specs.Cell.{SpellsOneCell, SpellsOneValue}
use Rattle.tables.specs.declared.hit.Hit.{Hit}
use Rattle.tables.specs.declared.roles.FamilyRoles.{FamilyRoles}
use Rattle.tables.specs.declared.roles.Roles.{Roles}
use Rattle.tables.specs.declared.roles.Source.{Source}
use Rattle.tables.specs.declared.roles.Source.TheVariants.{Literal, Input as InputSource, Output as OutputSource}
use Rattle.dtable.specs.declared.reading.roles.RoleKind.{RoleKind}
use Rattle.tables.specs.declared.table.InputData.{InputData}
use Rattle.tables.specs.declared.table.Input.{Input}
use Rattle.tables.specs.declared.table.Origin.TheVariants.{Given, Earlier}
use Rattle.tables.specs.declared.table.Output.{Output}
use Rattle.tables.specs.declared.table.Rule.{Rule}
use Rattle.tables.specs.declared.table.Table.{Table}
use Rattle.tables.specs.Plan.{PlanParts, has_families, keeps_families}
use Rattle.dtable.specs.PlanFile.{IsEntry, IsCellUnder, IsRule, AreRules, IsTable, AreTables, AreTablesOf, AreNames, IsPlanDocument, SpellsOnePlan}
use Rattle.dtable.specs.RoleFile.{IsSource, IsRole, AreFamilyRoles, AreLimits, AreRoles, AreRemarks, asked_by, asked_kind}
use Rattle.dtable.specs.Scope.{SeenOutput, seen_of, taken_names}
use Rattle.dtable.proofs.Entries.{Optionally-same, Each-same, EachAfter-same, EachUnder-same}
use Rattle.dtable.proofs.ReadParts.{IsHit-same, AreNames-same, IsLiteral-same, IsCell-same, AreInputs-same, AreOutputs-same, version-same}

module _ (once_cell : SpellsOneCell) (once_value : SpellsOneValue) where
  IsEntry-same : (o : Output) (d : Data) (v w : Value) → IsEntry o d v → IsEntry o d w → v ≡ w
  IsEntry-same o d v w h k = IsLiteral-same once_value o.kind d v w h.literal k.literal

  IsCellUnder-same : (names : List InputData) (earlier : List (List SeenOutput)) (i : Input) (d : Data) (a b : Cell) → IsCellUnder names earlier i d a → IsCellUnder names earlier i d b → a ≡ b
  IsCellUnder-same names earlier i d a b h k = IsCell-same once_cell names earlier i.origin d a b h k

  IsRule-same : (names : List InputData) (earlier : List (List SeenOutput)) (is : List Input) (os : List Output) (d : Data) (r s : Rule) → IsRule names earlier is os d r → IsRule names earlier is os d s → r ≡ s
  IsRule-same names earlier is os d r s h k =
      let whens : k.when.entries ≡ h.when.entries = same_Some k.when.entries h.when.entries (sym k.when.written ∙ h.when.written) in
      let thens : k.then.entries ≡ h.then.entries = same_Some k.then.entries h.then.entries (sym k.then.written ∙ h.then.written) in
      let cells : r.cells ≡ s.cells = EachUnder-same (IsCellUnder names earlier) (IsCellUnder-same names earlier) is h.when.entries r.cells s.cells h.when.each (rw whens at k.when.each) in
      let entries : r.entries ≡ s.entries = EachUnder-same IsEntry IsEntry-same os h.then.entries r.entries s.entries h.then.each (rw thens at k.then.each) in
      let made : List Cell → List Value → Rule = λ c e. record { cells = c; entries = e } in
      ap (λ c. made c r.entries) cells ∙ ap (made s.cells) entries

  AreRules-same : (names : List InputData) (earlier : List (List SeenOutput)) (is : List Input) (os : List Output) (d : Data) (rs ss : List Rule) → AreRules names earlier is os d rs → AreRules names earlier is os d ss → rs ≡ ss
  AreRules-same names earlier is os d rs ss h k =
      let entries : k.entries ≡ h.entries = same_Some k.entries h.entries (sym k.written ∙ h.written) in
      Each-same (IsRule names earlier is os) (IsRule-same names earlier is os) h.entries rs ss h.each (rw entries at k.each)

  IsTable-same : (names : List InputData) (earlier : List (List SeenOutput)) (d : Data) (t u : Table) → IsTable names earlier d t → IsTable names earlier d u → t ≡ u
  IsTable-same names earlier d t u h k =
      let hits : t.hit ≡ u.hit = IsHit-same (get (codes "hit") d) t.hit u.hit h.hit k.hit in
      let inputs : t.inputs ≡ u.inputs = AreInputs-same once_cell names earlier d t.inputs u.inputs h.inputs k.inputs in
      let outputs : t.outputs ≡ u.outputs = AreOutputs-same once_value u.hit (taken_names names earlier) d t.outputs u.outputs (rw hits at h.outputs) k.outputs in
      let rules : t.rules ≡ u.rules = AreRules-same names earlier u.inputs u.outputs d t.rules u.rules (rw (inputs, outputs) at h.rules) k.rules in
      let made : Hit → List Input → List Output → List Rule → Table = λ g i o r. record { hit = g; inputs = i; outputs = o; rules = r } in
      ap (λ g. made g t.inputs t.outputs t.rules) hits ∙ ap (λ i. made u.hit i t.outputs t.rules) inputs ∙ ap (λ o. made u.hit u.inputs o t.rules) outputs ∙ ap (made u.hit u.inputs u.outputs) rules

  AreTablesOf-same : (names : List InputData) (d : Data) (ts us : List Table) → AreTablesOf names d ts → AreTablesOf names d us → ts ≡ us
  AreTablesOf-same names d ts us h k =
      let entries : k.entries ≡ h.entries = same_Some k.entries h.entries (sym k.written ∙ h.written) in
      let other : AreTables names h.entries us = rw entries at k.spelled in
      EachAfter-same seen_of (IsTable names) (IsTable-same names) [] h.entries ts us h.spelled.each other.each

  IsSource-same : (names : List InputData) (earlier : List (List SeenOutput)) (ask : RoleKind) (text : List ℕ) (r s : Source) → IsSource names earlier ask text r → IsSource names earlier ask text s → r ≡ s
  IsSource-same names earlier ask text (Literal v) (Literal w) h k = ap Literal (once_value (asked_kind ask) text v w h.spelled k.spelled)
  IsSource-same names earlier ask text (Literal v) (InputSource q) h k = absurd (k.0 v h.spelled)
  IsSource-same names earlier ask text (Literal v) (OutputSource m) h k = absurd (k.0 v h.spelled)
  IsSource-same names earlier ask text (InputSource p) (Literal w) h k = absurd (h.0 w k.spelled)
  IsSource-same names earlier ask text (InputSource p) (InputSource q) h k =
      let origins : Given p ≡ Given q = same_Some (Given p) (Given q) (sym h.1.known ∙ k.1.known) in
      let places : p ≡ q = cc in
      ap InputSource places
  IsSource-same names earlier ask text (InputSource p) (OutputSource m) h k =
      let clash : Given p ≡ Earlier k.1.table k.1.column = same_Some (Given p) (Earlier k.1.table k.1.column) (sym h.1.known ∙ k.1.known) in cc
  IsSource-same names earlier ask text (OutputSource n) (Literal w) h k = absurd (h.0 w k.spelled)
  IsSource-same names earlier ask text (OutputSource n) (InputSource q) h k =
      let clash : Earlier h.1.table h.1.column ≡ Given q = same_Some (Earlier h.1.table h.1.column) (Given q) (sym h.1.known ∙ k.1.known) in cc
  IsSource-same names earlier ask text (OutputSource n) (OutputSource m) h k = ap OutputSource (h.1.same ∙ sym k.1.same)

  IsRole-same : (names : List InputData) (earlier : List (List SeenOutput)) (role : RoleKey) (d : Data) (r s : Source) → IsRole names earlier role d r → IsRole names earlier role d s → r ≡ s
  IsRole-same names earlier role d r s h k =
      let texts : k.text ≡ h.text = same_Some k.text h.text (sym k.written ∙ h.written) in
      IsSource-same names earlier (asked_by role) h.text r s h.spelled (rw texts at k.spelled)

  AreRemarks-same : (earlier : List (List SeenOutput)) (d : Data) (a b : List ℕ) → AreRemarks earlier d a → AreRemarks earlier d b → a ≡ b
  AreRemarks-same earlier d a b h k =
      let first : d ≡ string a = h.written in
      let second : d ≡ string b = k.written in
      cc

  AreLimits-same : (names : List InputData) (earlier : List (List SeenOutput)) (d : Data) (l m : FamilyRoles) → AreLimits names earlier d l → AreLimits names earlier d m → l ≡ m
  AreLimits-same names earlier d l m h k =
      let same = IsRole-same names earlier in
      let deductible : l.deductible ≡ m.deductible = same _ d l.deductible m.deductible h.deductible k.deductible in
      let oop_max : l.oop_max ≡ m.oop_max = same _ d l.oop_max m.oop_max h.oop_max k.oop_max in
      let made : Source → Source → FamilyRoles = λ e o. record { deductible = e; oop_max = o } in
      ap (λ x. made x l.oop_max) deductible ∙ ap (made m.deductible) oop_max

  AreFamilyRoles-same : (families : Bool) (names : List InputData) (earlier : List (List SeenOutput)) (d : Data) (a b : Option FamilyRoles)
      → AreFamilyRoles families names earlier d a → AreFamilyRoles families names earlier d b → a ≡ b
  AreFamilyRoles-same false names earlier d None None h k = refl
  AreFamilyRoles-same false names earlier d None (Some m) h k = absurd k
  AreFamilyRoles-same false names earlier d (Some l) b h k = absurd h
  AreFamilyRoles-same true names earlier d None b h k = absurd h
  AreFamilyRoles-same true names earlier d (Some l) None h k = absurd k
  AreFamilyRoles-same true names earlier d (Some l) (Some m) h k = ap Some (AreLimits-same names earlier d l m h k)

  AreRoles-same : (families : Bool) (names : List InputData) (earlier : List (List SeenOutput)) (d : Data) (r s : Roles) → AreRoles families names earlier d r → AreRoles families names earlier d s → r ≡ s
  AreRoles-same families names earlier d r s h k =
      let same = IsRole-same names earlier in
      let remarks : r.remarks ≡ s.remarks = Optionally-same (AreRemarks earlier) (AreRemarks-same earlier) (get (key_of keys.Remarks) d) r.remarks s.remarks h.remarks k.remarks in
      let cover : r.cover ≡ s.cover = same _ d r.cover s.cover h.cover k.cover in
      let fee : r.fee ≡ s.fee = same _ d r.fee s.fee h.fee k.fee in
      let deductible : r.deductible ≡ s.deductible = same _ d r.deductible s.deductible h.deductible k.deductible in
      let copay : r.copay ≡ s.copay = same _ d r.copay s.copay h.copay k.copay in
      let rate : r.rate ≡ s.rate = same _ d r.rate s.rate h.rate k.rate in
      let oop_max : r.oop_max ≡ s.oop_max = same _ d r.oop_max s.oop_max h.oop_max k.oop_max in
      let family : r.family ≡ s.family = AreFamilyRoles-same families names earlier d r.family s.family h.family k.family in
      let made : Source → Source → Source → Source → Source → Source → Option (List ℕ) → Option FamilyRoles → Roles =
      λ c f e p q o m l. record { cover = c; fee = f; deductible = e; copay = p; rate = q; oop_max = o; remarks = m; family = l } in
      ap (λ x. made x r.fee r.deductible r.copay r.rate r.oop_max r.remarks r.family) cover
      ∙ ap (λ x. made s.cover x r.deductible r.copay r.rate r.oop_max r.remarks r.family) fee
      ∙ ap (λ x. made s.cover s.fee x r.copay r.rate r.oop_max r.remarks r.family) deductible
      ∙ ap (λ x. made s.cover s.fee s.deductible x r.rate r.oop_max r.remarks r.family) copay
      ∙ ap (λ x. made s.cover s.fee s.deductible s.copay x r.oop_max r.remarks r.family) rate
      ∙ ap (λ x. made s.cover s.fee s.deductible s.copay s.rate x r.remarks r.family) oop_max
      ∙ ap (λ x. made s.cover s.fee s.deductible s.copay s.rate s.oop_max x r.family) remarks
      ∙ ap (made s.cover s.fee s.deductible s.copay s.rate s.oop_max s.remarks) family

  IsPlanDocument-same : (d : Data) (p q : PlanParts) → IsPlanDocument d p → IsPlanDocument d q → p ≡ q
  IsPlanDocument-same d p q h k =
      let versions : p.version ≡ q.version = version-same d p.version q.version h.version k.version in
      let under : AreNames (keeps_families q) d p.names = subst (λ v. AreNames (has_families v) d p.names) versions h.names in
      let names : p.names ≡ q.names = AreNames-same (keeps_families q) d p.names q.names under k.names in
      let tables : p.tables ≡ q.tables = AreTablesOf-same q.names d p.tables q.tables (rw names at h.tables) k.tables in
      let roles : p.roles ≡ q.roles =
      Optionally-same (AreRoles (keeps_families q) q.names (map seen_of q.tables)) (AreRoles-same (keeps_families q) q.names (map seen_of q.tables)) (get (codes "roles") d) p.roles q.roles
      (rw (versions, names, tables) at h.roles) k.roles in
      let made : ℕ → List InputData → List Table → Option Roles → PlanParts = λ v n t r. record { version = v; names = n; tables = t; roles = r } in
      ap (λ v. made v p.names p.tables p.roles) versions ∙ ap (λ n. made q.version n p.tables p.roles) names ∙ ap (λ t. made q.version q.names t p.roles) tables ∙ ap (made q.version q.names q.tables) roles

  pub spells_one_plan : SpellsOnePlan
  spells_one_plan text p q h k =
      let members : k.members ≡ h.members = same_Some k.members h.members (sym k.read ∙ h.read) in
      IsPlanDocument-same (whole_table h.members) p q h.spelled (rw members at k.spelled)
