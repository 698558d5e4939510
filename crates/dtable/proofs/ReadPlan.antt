-- A plan that a document denotes satisfies `IsPlan`.
use Rattle.std.proofs.Common.{◌≡◌, ◌≢◌, ℕ, ◌+◌, ◌<◌, ◌≤◌, Result, Ok, Err, IfOk, IfErr, ◌==◌, zero, suc, Bool, true, false, not, ◌&&◌, nat_lt, List, [], ◌∷◌, ◌++◌, length, map, codes, Option, Some, None, option_map, slice_get, IsTrue, inl, inr, refl, sym, ap, subst, ◌∙◌, arith}
use Rattle.std.specs.List.{list_all, list_any, zip, position}
use Rattle.std.specs.Option.{option_map_or}
use Rattle.std.specs.Str.{bytes_eq}
use Rattle.std.proofs.lemmas.Bool.{cases_Bool}
use Rattle.std.proofs.lemmas.Bool.Decides.{nat_tests}
use Rattle.std.proofs.lemmas.List.{map-append}
use Rattle.std.proofs.lemmas.List.Quantifiers.{position-Some}
use Rattle.std.proofs.lemmas.Option.{same_Some, slice_get-map}
use Rattle.std.specs.Str.{IsUtf8}
use Rattle.toml.specs.Data.{Data, Items, Members, no_items, item, table as whole_table, get}
use Rattle.toml.specs.Parse.{parse_document}
use Rattle.feel_tests.specs.Cell.{SpellsOneValue}
use Rattle.faults.specs.declared.plan_fault.PlanFault.{PlanFault}
use Rattle.faults.specs.declared.plan_fault.PlanCause.TheVariants.{OutOfMemory}
use Rattle.faults.specs.declared.role_key.RoleKey.{RoleKey}
use Rattle.faults.specs.declared.role_key.RoleKey.TheVariants as keys
use Rattle.faults.specs.RoleKeys.{key_of}
use Rattle.tables.specs.Limits.{plan_limit_bytes}
use Rattle.tables.specs.Names.{names_of}
use Rattle.dtable.specs.Reading.{Reads}
use Rattle.feel_tests.specs.declared.kind.Kind.{Kind}
use Rattle.feel_tests.specs.declared.kind.Kind.TheVariants as kinds
use Rattle.feel_tests.specs.declared.value.Value.{Value}
use Rattle.feel_tests.specs.Value.{kind_of}
use Rattle.tables.specs.declared.hit.Hit.{Hit}
use Rattle.tables.specs.declared.roles.FamilyRoles.{FamilyRoles}
use Rattle.tables.specs.declared.roles.Roles.{Roles}
use Rattle.tables.specs.declared.roles.Source.{Source}
use Rattle.tables.specs.declared.roles.Source.TheVariants.{Literal, Input as InputSource, Output as OutputSource}
use Rattle.dtable.specs.declared.reading.roles.RoleKind.{RoleKind}
use Rattle.tables.specs.declared.table.InputData.{InputData}
use Rattle.tables.specs.declared.table.Input.{Input}
use Rattle.tables.specs.declared.table.Origin.{Origin}
use Rattle.tables.specs.declared.table.Origin.TheVariants.{Given, Earlier}
use Rattle.tables.specs.declared.table.Output.{Output}
use Rattle.tables.specs.declared.table.Rule.{Rule}
use Rattle.tables.specs.declared.table.Table.{Table}
use Rattle.dtable.specs.Document.{optional_array_at, Optionally, Each, EachAfter, EachUnder}
use Rattle.tables.specs.Environment.{or_else}
use Rattle.tables.specs.Plan.{PlanParts, IsPlan, same_kind, has_kind, gives_one, read_kind_of, is_known, are_known, entry_fits, rule_fits, is_ranked, satisfies_constraints, default_fits, some_output, source_fits, remarks_fit, family_roles_fit, roles_fit, has_families, keeps_families}
use Rattle.dtable.specs.PlanFile.{IsLiteral, IsEntry, IsInput, IsOutput, IsRule, IsCellUnder, AreFields, AreNames, IsTable, AreTables, AreTablesOf, IsPlanDocument, IsPlanText, IsVersionOf}
use Rattle.dtable.specs.RoleFile.{IsSource, IsRole, AreFamilyRoles, AreRoles, AreRemarks, asked_by, asked_kind, lists_texts}
use Rattle.dtable.specs.Scope.{SeenOutput, seen_output, seen_of, earlier_origin, kind_at}
use Rattle.dtable.proofs.DistinctNames.{distinct-document}
use Rattle.dtable.proofs.FoundOutput.{IsFound, found}
use Rattle.dtable.proofs.PlanLimits.{within-document}
use Rattle.dtable.proofs.ReadNames.{read_kind_of-listed}
use Rattle.dtable.proofs.ReadParts.{AreTablesOf-seen, names-same, version-same}

is_true : (b : Bool) → b ≡ true → IsTrue b
is_true b e = e

true_of : (b : Bool) → IsTrue b → b ≡ true
true_of b h = h

both : (a b : Bool) → a ≡ true → b ≡ true → (a && b) ≡ true
both a b h k = rw (h, k)

same_number : (m n : ℕ) → m ≡ n → (m == n) ≡ true
same_number m n e = grind (arith, nat_tests)

below : (m n : ℕ) → m < n → nat_lt m n ≡ true
below m n h = grind (arith, nat_tests)

same_kind-refl : (k : Kind) → same_kind k k ≡ true
same_kind-refl kinds.Number = refl
same_kind-refl kinds.Text = refl
same_kind-refl kinds.Flag = refl
same_kind-refl kinds.Day = refl

has_kind-of : (k : Kind) (v : Value) → kind_of v ≡ k → has_kind k v ≡ true
has_kind-of k v e = rw e (same_kind-refl k)

-- all elements pass a test if each entry denotes an element that does
each_all : {A : Type 0} (R : Data → A → Type 0) (test : A → Bool) → ((d : Data) (x : A) → R d x → test x ≡ true) → (ds : Items) (xs : List A) → Each R ds xs → list_all test xs ≡ true
each_all R test pass no_items [] h = refl
each_all R test pass no_items (x ∷ xs) h = absurd h
each_all R test pass (item d ds) [] h = absurd h
each_all R test pass (item d ds) (x ∷ xs) h = both (test x) (list_all test xs) (pass d x h.0) (each_all R test pass ds xs h.1)

each_after_all : {A S : Type 0} (seen : A → S) (R : List S → Data → A → Type 0) (test : A → Bool) → ((front : List S) (d : Data) (x : A) → R front d x → test x ≡ true)
    → (front : List S) (ds : Items) (xs : List A) → EachAfter seen R front ds xs → list_all test xs ≡ true
each_after_all seen R test pass front no_items [] h = refl
each_after_all seen R test pass front no_items (x ∷ xs) h = absurd h
each_after_all seen R test pass front (item d ds) [] h = absurd h
each_after_all seen R test pass front (item d ds) (x ∷ xs) h = both (test x) (list_all test xs) (pass front d x h.0) (each_after_all seen R test pass (front ++ seen x ∷ []) ds xs h.1)

each_under_length : {C A : Type 0} (R : C → Data → A → Type 0) (cs : List C) (ds : Items) (xs : List A) → EachUnder R cs ds xs → length xs ≡ length cs
each_under_length R [] no_items [] h = refl
each_under_length R [] no_items (x ∷ xs) h = absurd h
each_under_length R [] (item d ds) xs h = absurd h
each_under_length R (c ∷ cs) no_items xs h = absurd h
each_under_length R (c ∷ cs) (item d ds) [] h = absurd h
each_under_length R (c ∷ cs) (item d ds) (x ∷ xs) h = ap suc (each_under_length R cs ds xs h.1)

-- rules fit
entries_fit : (os : List Output) (ds : Items) (vs : List Value) → EachUnder IsEntry os ds vs → list_all (λ p. entry_fits p.0 p.1) (zip os vs) ≡ true
entries_fit [] no_items [] h = refl
entries_fit [] no_items (v ∷ vs) h = absurd h
entries_fit [] (item d ds) vs h = absurd h
entries_fit (o ∷ os) no_items vs h = absurd h
entries_fit (o ∷ os) (item d ds) [] h = absurd h
entries_fit (o ∷ os) (item d ds) (v ∷ vs) h =
    both (entry_fits o v) (list_all (λ p. entry_fits p.0 p.1) (zip os vs))
    (both (has_kind o.kind v) (is_ranked o.priority v) (has_kind-of o.kind v h.0.literal.of_kind) (true_of (is_ranked o.priority v) h.0.listed))
    (entries_fit os ds vs h.1)

rule_fits-of : (names : List InputData) (earlier : List (List SeenOutput)) (t : Table) (d : Data) (r : Rule) → IsRule names earlier t.inputs t.outputs d r → rule_fits t r ≡ true
rule_fits-of names earlier t d r h =
    both (length r.cells == length t.inputs) ((length r.entries == length t.outputs) && list_all (λ p. entry_fits p.0 p.1) (zip t.outputs r.entries))
    (same_number (length r.cells) (length t.inputs) (each_under_length (IsCellUnder names earlier) t.inputs h.when.entries r.cells h.when.each))
    (both (length r.entries == length t.outputs) (list_all (λ p. entry_fits p.0 p.1) (zip t.outputs r.entries))
    (same_number (length r.entries) (length t.outputs) (each_under_length IsEntry t.outputs h.then.entries r.entries h.then.each))
    (entries_fit t.outputs h.then.entries r.entries h.then.each))

rules_fit : (names : List InputData) (earlier : List (List SeenOutput)) (d : Data) (t : Table) → IsTable names earlier d t → list_all (rule_fits t) t.rules ≡ true
rules_fit names earlier d t h = each_all (IsRule names earlier t.inputs t.outputs) (rule_fits t) (rule_fits-of names earlier t) h.rules.entries t.rules h.rules.each

demands_met : (names : List InputData) (earlier : List (List SeenOutput)) (d : Data) (t : Table) → IsTable names earlier d t → satisfies_constraints t.hit t.outputs ≡ true
demands_met names earlier d t h = true_of (satisfies_constraints t.hit t.outputs) h.demands

-- defaults fit
default_ok : (k : Kind) (o : Option Data) (f : Option Value) → Optionally (IsLiteral k) o f → option_map_or (has_kind k) f true ≡ true
default_ok k None None h = refl
default_ok k None (Some v) h = absurd h
default_ok k (Some d) None h = absurd h
default_ok k (Some d) (Some v) h = has_kind-of k v h.of_kind

default_fits-of : (hit : Hit) (taken : List (List ℕ)) (d : Data) (o : Output) → IsOutput hit taken d o → default_fits hit o ≡ true
default_fits-of hit taken d o h = default_ok (read_kind_of hit o.kind) (get (codes "default") d) o.fallback h.fallback

defaults_fit : (names : List InputData) (earlier : List (List SeenOutput)) (d : Data) (t : Table) → IsTable names earlier d t → list_all (default_fits t.hit) t.outputs ≡ true
defaults_fit names earlier d t h = each_after_all (λ o. o.name) (IsOutput t.hit) (default_fits t.hit) (default_fits-of t.hit) _ h.outputs.entries t.outputs h.outputs.each

-- origins are known
known_earlier : (names : List InputData) (ts : List Table) (name : List ℕ) (origin : Origin) → IsFound name 0 ts origin → is_known names ts origin ≡ true
known_earlier names ts name origin f =
    let place : 0 + f.table ≡ f.table = omega arith in
    let here : origin ≡ Earlier f.table f.column = f.there ∙ ap (λ n. Earlier n f.column) place in
    rw (here, f.t_at, f.one) (below f.column (length f.t.outputs) f.within)

known_by : (names : List InputData) (ts : List Table) (name : List ℕ) (origin : Origin) (p : Option ℕ) → position (λ d. bytes_eq d.name name) names ≡ p
    → or_else (option_map Given p) (earlier_origin 0 (map seen_of ts) name) ≡ Some origin → is_known names ts origin ≡ true
known_by names ts name origin None is e = known_earlier names ts name origin (found name 0 ts origin e)
known_by names ts name origin (Some place) is e =
    let at = position-Some (λ d. bytes_eq d.name name) names place (record { name = []; kind = kinds.Number }) is in
    let here : origin ≡ Given place = sym (same_Some (Given place) origin e) in
    rw here (below place (length names) at.0)

known_origin : (names : List InputData) (ts : List Table) (d : Data) (i : Input) → IsInput names (map seen_of ts) d i → is_known names ts i.origin ≡ true
known_origin names ts d i h = known_by names ts i.name i.origin (position (λ e. bytes_eq e.name i.name) names) refl h.known

known_inputs : (names : List InputData) (ts : List Table) (d : Data) (t : Table) → IsTable names (map seen_of ts) d t → list_all (λ i. is_known names ts i.origin) t.inputs ≡ true
known_inputs names ts d t h = each_all (IsInput names (map seen_of ts)) (λ i. is_known names ts i.origin) (known_origin names ts) h.inputs.entries t.inputs h.inputs.each

known_tables : (names : List InputData) (earlier : List Table) (ds : Items) (ts : List Table) → EachAfter seen_of (IsTable names) (map seen_of earlier) ds ts → are_known names earlier ts ≡ true
known_tables names earlier no_items [] h = refl
known_tables names earlier no_items (t ∷ ts) h = absurd h
known_tables names earlier (item d ds) [] h = absurd h
known_tables names earlier (item d ds) (t ∷ ts) h =
    both (list_all (λ i. is_known names earlier i.origin) t.inputs) (are_known names (earlier ++ t ∷ []) ts)
    (known_inputs names earlier d t h.0)
    (known_tables names (earlier ++ t ∷ []) ds ts (rw (map-append seen_of earlier (t ∷ [])) h.1))

-- the element at an index passes, so some element does
any_at : {A : Type 0} (test : A → Bool) (xs : List A) (i : ℕ) (x : A) → slice_get xs i ≡ Some x → test x ≡ true → list_any test xs ≡ true
any_at test [] i x at pass = cc
any_at test (y ∷ ys) zero x at pass = rw (same_Some y x at, pass)
any_at test (y ∷ ys) (suc i) x at pass =
    elim (cases_Bool (test y)) [
      | inl passes ↦ rw passes
      | inr fails ↦ rw fails (any_at test ys i x at pass)
    ]

-- sources fit
given_fits : (kind : Kind) (o : Option InputData) → option_map (λ d. d.kind) o ≡ Some kind → option_map_or (λ d. same_kind kind d.kind) o false ≡ true
given_fits kind None e = cc
given_fits kind (Some d) e = rw (same_Some d.kind kind e) (same_kind-refl kind)

found_kind : (names : List InputData) (ts : List Table) (name : List ℕ) (origin : Origin) (kind : Kind) → (f : IsFound name 0 ts origin) → kind_at names (map seen_of ts) (Earlier f.table f.column) ≡ Some kind → read_kind_of f.t.hit f.output.kind ≡ kind
found_kind names ts name origin kind f k =
    let tables : slice_get (map seen_of ts) f.table ≡ Some (seen_of f.t) = slice_get-map seen_of ts f.table ∙ ap (option_map seen_of) f.t_at in
    let outputs : slice_get (seen_of f.t) f.column ≡ Some (seen_output f.t.hit f.output) = slice_get-map (seen_output f.t.hit) f.t.outputs f.column ∙ ap (option_map (seen_output f.t.hit)) f.output_at in
    same_Some (read_kind_of f.t.hit f.output.kind) kind (rw (tables, outputs) at k)

found_fits : (names : List InputData) (ts : List Table) (name : List ℕ) (kind : Kind) (table column : ℕ) → IsFound name 0 ts (Earlier table column) → kind_at names (map seen_of ts) (Earlier table column) ≡ Some kind
    → some_output (λ hit o. gives_one hit && same_kind kind (read_kind_of hit o.kind)) ts name ≡ true
found_fits names ts name kind table column f k =
    let there = f.there in
    let tables : table ≡ 0 + f.table = cc in
    let columns : column ≡ f.column = cc in
    let place : table ≡ f.table = omega (arith, tables) in
    let kinds_same : read_kind_of f.t.hit f.output.kind ≡ kind = found_kind names ts name (Earlier table column) kind f (rw (place, columns) at k) in
    let fits : same_kind kind (read_kind_of f.t.hit f.output.kind) ≡ true = rw kinds_same (same_kind-refl kind) in
    any_at (λ t. list_any (λ o. bytes_eq o.name name && (gives_one t.hit && same_kind kind (read_kind_of t.hit o.kind))) t.outputs) ts f.table f.t f.t_at
    (any_at (λ o. bytes_eq o.name name && (gives_one f.t.hit && same_kind kind (read_kind_of f.t.hit o.kind))) f.t.outputs f.column f.output f.output_at
    (both (bytes_eq f.output.name name) (gives_one f.t.hit && same_kind kind (read_kind_of f.t.hit f.output.kind)) f.named
    (both (gives_one f.t.hit) (same_kind kind (read_kind_of f.t.hit f.output.kind)) f.one fits)))

output_fits_by : (names : List InputData) (ts : List Table) (name : List ℕ) (kind : Kind) (table column : ℕ) (p : Option ℕ)
    → or_else (option_map Given p) (earlier_origin 0 (map seen_of ts) name) ≡ Some (Earlier table column) → kind_at names (map seen_of ts) (Earlier table column) ≡ Some kind
    → some_output (λ hit o. gives_one hit && same_kind kind (read_kind_of hit o.kind)) ts name ≡ true
output_fits_by names ts name kind table column (Some place) e k = cc
output_fits_by names ts name kind table column None e k = found_fits names ts name kind table column (found name 0 ts (Earlier table column) e) k

source_by : (p : PlanParts) (ask : RoleKind) (text : List ℕ) (source : Source) → IsSource p.names (map seen_of p.tables) ask text source → source_fits p.names p.tables (asked_kind ask) source ≡ true
source_by p ask text (Literal value) h = has_kind-of (asked_kind ask) value h.of_kind
source_by p ask text (InputSource place) h = given_fits (asked_kind ask) (slice_get p.names place) h.1.of_kind
source_by p ask text (OutputSource name) h =
    rw h.1.same (output_fits_by p.names p.tables text (asked_kind ask) h.1.table h.1.column (position (λ d. bytes_eq d.name text) p.names) h.1.known h.1.of_kind)

source_ok : (p : PlanParts) (role : RoleKey) (d : Data) (source : Source) → IsRole p.names (map seen_of p.tables) role d source → source_fits p.names p.tables (asked_kind (asked_by role)) source ≡ true
source_ok p role d source h = source_by p (asked_by role) h.text source h.spelled

-- remarks fit
text_same : (hit : Hit) (kind : Kind) → (not (gives_one hit) && same_kind kinds.Text (read_kind_of hit kind)) ≡ (not (gives_one hit) && same_kind kinds.Text kind)
text_same hit kind =
    elim (cases_Bool (gives_one hit)) [
      | inl one ↦ rw one
      | inr list ↦ rw (read_kind_of-listed hit kind list)
    ]

texts_same : (name : List ℕ) (hit : Hit) (os : List Output)
    → list_any (λ o. bytes_eq o.name name && (not o.is_single && same_kind kinds.Text o.kind)) (map (seen_output hit) os) ≡ list_any (λ o. bytes_eq o.name name && (not (gives_one hit) && same_kind kinds.Text o.kind)) os
texts_same name hit [] = refl
texts_same name hit (o ∷ os) = rw (text_same hit o.kind, texts_same name hit os)

lists_same : (name : List ℕ) (ts : List Table) → lists_texts (map seen_of ts) name ≡ some_output (λ hit o. not (gives_one hit) && same_kind kinds.Text o.kind) ts name
lists_same name [] = refl
lists_same name (t ∷ ts) = rw (texts_same name t.hit t.outputs, lists_same name ts)

remarks_ok : (ts : List Table) (o : Option Data) (name : Option (List ℕ)) → Optionally (AreRemarks (map seen_of ts)) o name → remarks_fit ts name ≡ true
remarks_ok ts None None h = refl
remarks_ok ts None (Some name) h = absurd h
remarks_ok ts (Some d) None h = absurd h
remarks_ok ts (Some d) (Some name) h = sym (lists_same name ts) ∙ true_of (lists_texts (map seen_of ts) name) h.lists

-- the family's limits fit
family_ok : (p : PlanParts) (families : Bool) (d : Data) (limits : Option FamilyRoles) → keeps_families p ≡ families → AreFamilyRoles families p.names (map seen_of p.tables) d limits → family_roles_fit p limits ≡ true
family_ok p false d None kept h = rw kept
family_ok p false d (Some limits) kept h = absurd h
family_ok p true d None kept h = absurd h
family_ok p true d (Some limits) kept h =
    rw (
      kept,
      source_ok p keys.FamilyDeductible d limits.deductible h.deductible,
      source_ok p keys.FamilyOopMax d limits.oop_max h.oop_max,
    )

roles_ok : (p : PlanParts) (o : Option Data) (roles : Option Roles) → Optionally (AreRoles (keeps_families p) p.names (map seen_of p.tables)) o roles → option_map_or (roles_fit p) roles true ≡ true
roles_ok p None None h = refl
roles_ok p None (Some r) h = absurd h
roles_ok p (Some d) None h = absurd h
roles_ok p (Some d) (Some r) h =
    rw (
      source_ok p keys.Cover d r.cover h.cover,
      source_ok p keys.Fee d r.fee h.fee,
      source_ok p keys.Deductible d r.deductible h.deductible,
      source_ok p keys.Copay d r.copay h.copay,
      source_ok p keys.Rate d r.rate h.rate,
      source_ok p keys.OopMax d r.oop_max h.oop_max,
      remarks_ok p.tables (get (key_of keys.Remarks) d) r.remarks h.remarks,
    ) (family_ok p (keeps_families p) d r.family refl h.family)

pub IsPlan-of : (d : Data) (p : PlanParts) → IsPlanDocument d p → IsPlan p
IsPlan-of d p h =
    let tables = h.tables.spelled.each in
    record {
      version = h.version.known;
      fields = h.names.fields;
      names = h.names.named;
      limits = within-document d p h;
      distinct = distinct-document d p h;
      origins = is_true (are_known p.names [] p.tables) (known_tables p.names [] h.tables.entries p.tables tables);
      rules = is_true (list_all (λ t. list_all (rule_fits t) t.rules) p.tables) (each_after_all seen_of (IsTable p.names) (λ t. list_all (rule_fits t) t.rules) (rules_fit p.names) [] h.tables.entries p.tables tables);
      demands = is_true (list_all (λ t. satisfies_constraints t.hit t.outputs) p.tables) (each_after_all seen_of (IsTable p.names) (λ t. satisfies_constraints t.hit t.outputs) (demands_met p.names) [] h.tables.entries p.tables tables);
      defaults = is_true (list_all (λ t. list_all (default_fits t.hit) t.outputs) p.tables) (each_after_all seen_of (IsTable p.names) (λ t. list_all (default_fits t.hit) t.outputs) (defaults_fit p.names) [] h.tables.entries p.tables tables);
      roles = is_true (option_map_or (roles_fit p) p.roles true) (roles_ok p (get (codes "roles") d) p.roles h.roles);
    }

-- the names of a document, from its entries
pub AreNames-unwritten : (families : Bool) (d : Data) → optional_array_at (codes "fields") d ≡ None → (names : List InputData) → ¬ AreNames families d names
AreNames-unwritten families d none names h = let clash : None ≡ Some h.entries = sym none ∙ h.written in cc

pub AreNames-no_fields : (families : Bool) (d : Data) (ds : Items) → optional_array_at (codes "fields") d ≡ Some ds → ((fs : List InputData) → ¬ AreFields families ds fs) → (names : List InputData) → ¬ AreNames families d names
AreNames-no_fields families d ds read none names h =
    let same : h.entries ≡ ds = same_Some h.entries ds (sym h.written ∙ read) in
    none h.fields (rw same at h.spelled)

pub AreNames-made : (families : Bool) (d : Data) (ds : Items) (fs names : List InputData) → optional_array_at (codes "fields") d ≡ Some ds → AreFields families ds fs → names ≡ names_of families fs
    → AreNames families d names
AreNames-made families d ds fs names read spelled named = record { entries = ds; written = read; fields = fs; spelled = spelled; named = named }

-- the tables of a document, from its entries
pub AreTablesOf-unwritten : (names : List InputData) (d : Data) → optional_array_at (codes "tables") d ≡ None → (ts : List Table) → ¬ AreTablesOf names d ts
AreTablesOf-unwritten names d none ts h = let clash : None ≡ Some h.entries = sym none ∙ h.written in cc

pub AreTablesOf-made : (names : List InputData) (d : Data) (ds : Items) → optional_array_at (codes "tables") d ≡ Some ds → (ts : List Table) → AreTables names ds ts → AreTablesOf names d ts
AreTablesOf-made names d ds read ts h = record { entries = ds; written = read; spelled = h }

pub AreTables-of : (names : List InputData) (d : Data) (ds : Items) → optional_array_at (codes "tables") d ≡ Some ds → (ts : List Table) → AreTablesOf names d ts → AreTables names ds ts
AreTables-of names d ds read ts h =
    let same : h.entries ≡ ds = same_Some h.entries ds (sym h.written ∙ read) in
    rw same at h.spelled

-- the plan of a document, from its parts
pub plan_made : (d : Data) (version : ℕ) (names : List InputData) (tables : List Table) (roles : Option Roles) → IsVersionOf d version → AreNames (has_families version) d names → AreTablesOf names d tables
    → Optionally (AreRoles (has_families version) names (map seen_of tables)) (get (codes "roles") d) roles → IsPlanDocument d (record { version = version; names = names; tables = tables; roles = roles })
plan_made d version names tables roles written named spelled given = record { version = written; names = named; tables = spelled; roles = given }

pub no_names : (d : Data) (version : ℕ) → IsVersionOf d version → ((names : List InputData) → ¬ AreNames (has_families version) d names) → (p : PlanParts) → ¬ IsPlanDocument d p
no_names d version written none p h =
    let versions : p.version ≡ version = version-same d p.version version h.version written in
    none p.names (subst (λ v. AreNames (has_families v) d p.names) versions h.names)

pub no_tables : (d : Data) (version : ℕ) (names : List InputData) → IsVersionOf d version → AreNames (has_families version) d names → ((ts : List Table) → ¬ AreTablesOf names d ts) → (p : PlanParts) → ¬ IsPlanDocument d p
no_tables d version names written known none p h =
    let same : p.names ≡ names = names-same d version names written known p h in
    none p.tables (rw same at h.tables)

pub no_roles : SpellsOneValue → (d : Data) (version : ℕ) (names : List InputData) (tables : List Table) → IsVersionOf d version → AreNames (has_families version) d names → AreTablesOf names d tables
    → ((r : Option Roles) → ¬ Optionally (AreRoles (has_families version) names (map seen_of tables)) (get (codes "roles") d) r) → (p : PlanParts) → ¬ IsPlanDocument d p
no_roles once d version names tables written known spelled none p h =
    let versions : p.version ≡ version = version-same d p.version version h.version written in
    let same : p.names ≡ names = names-same d version names written known p h in
    let mine : AreTablesOf names d p.tables = rw same at h.tables in
    let seen : map seen_of p.tables ≡ map seen_of tables = AreTablesOf-seen once names d p.tables tables mine spelled in
    none p.roles (rw (versions, same, seen) at h.roles)

-- the plan of a text is the plan of its document
pub document_of_text : (text : List ℕ) (d : Data) (p : PlanParts) → option_map whole_table (parse_document text) ≡ Some d → IsPlanText text p → IsPlanDocument d p
document_of_text text d p read h =
    let same : whole_table h.members ≡ d = same_Some (whole_table h.members) d (sym (ap (option_map whole_table) h.read) ∙ read) in
    rw same at h.spelled

of_members : (o : Option Members) (text : List ℕ) (d : Data) (p : PlanParts) → parse_document text ≡ o → option_map whole_table o ≡ Some d → length text ≤ plan_limit_bytes → IsUtf8 text → IsPlanDocument d p → IsPlanText text p
of_members None text d p read h within utf8 spelled = cc
of_members (Some members) text d p read h within utf8 spelled =
    record { within = within; utf8 = utf8; members = members; read = read; spelled = rw (same_Some (whole_table members) d h) spelled }

pub text_of_document : (text : List ℕ) (d : Data) (p : PlanParts) → option_map whole_table (parse_document text) ≡ Some d → length text ≤ plan_limit_bytes → IsUtf8 text → IsPlanDocument d p → IsPlanText text p
text_of_document text d p read = of_members (parse_document text) text d p refl read

-- the clauses of a result
pub IfOk-from_Reads : {A : Type 0} (P Q : A → Type 0) (r : Result A PlanFault) → ((x : A) → P x → Q x) → Reads P r → IfOk r Q
IfOk-from_Reads P Q (Ok x) to h = to x h
IfOk-from_Reads P Q (Err fault) to h = tt

pub IfErr-from_Reads : {A : Type 0} (P Q : A → Type 0) (r : Result A PlanFault) → ((x : A) → Q x → P x) → Reads P r → IfErr r (λ fault. fault.cause ≢ OutOfMemory → (x : A) → ¬ Q x)
IfErr-from_Reads P Q (Ok x) from h = tt
IfErr-from_Reads P Q (Err fault) from h = λ memory x q. h memory x (from x q)
