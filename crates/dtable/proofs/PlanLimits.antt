-- A plan that a document denotes is within the limits.
use Rattle.std.proofs.Common.{◌≡◌, ◌≤◌, ℕ, suc, List, [], ◌∷◌, ◌++◌, length, codes, Option, Some, None, refl, ap, arith}
use Rattle.std.specs.List.{All}
use Rattle.std.specs.Option.{IfSome}
use Rattle.std.proofs.lemmas.List.Elements.{All-nil, All-cons}
use Rattle.toml.specs.Data.{Data, Items, no_items, item, get}
use Rattle.feel_tests.specs.declared.kind.Kind.{Kind}
use Rattle.feel_tests.specs.declared.value.Value.{Value}
use Rattle.tables.specs.declared.table.InputData.{InputData}
use Rattle.tables.specs.declared.table.Output.{Output}
use Rattle.tables.specs.declared.table.Table.{Table}
use Rattle.dtable.specs.Document.{item_count, Each, EachAfter, Optionally}
use Rattle.tables.specs.Limits.{priority_limit}
use Rattle.tables.specs.Plan.{PlanParts, IsTableWithin, IsWithin}
use Rattle.dtable.specs.PlanFile.{ArePriorities, IsField, IsInput, IsOutput, IsPlanDocument, IsPriority, IsRule, IsTable}
use Rattle.dtable.specs.Scope.{SeenOutput, seen_of}

-- there are as many elements as items
each-length : {A : Type 0} (R : Data → A → Type 0) (ds : Items) (xs : List A) → Each R ds xs → length xs ≡ item_count ds
each-length R no_items [] h = refl
each-length R no_items (x ∷ xs) h = absurd h
each-length R (item d ds) [] h = absurd h
each-length R (item d ds) (x ∷ xs) h = ap suc (each-length R ds xs h.1)

each_after-length : {A S : Type 0} (seen : A → S) (R : List S → Data → A → Type 0) (front : List S) (ds : Items) (xs : List A) → EachAfter seen R front ds xs → length xs ≡ item_count ds
each_after-length seen R front no_items [] h = refl
each_after-length seen R front no_items (x ∷ xs) h = absurd h
each_after-length seen R front (item d ds) [] h = absurd h
each_after-length seen R front (item d ds) (x ∷ xs) h = ap suc (each_after-length seen R (front ++ seen x ∷ []) ds xs h.1)

-- a property of what each item denotes, in view of the elements before it
each_after-has : {A S : Type 0} (seen : A → S) (R : List S → Data → A → Type 0) (P : A → Type 0) → ((front : List S) (d : Data) (x : A) → R front d x → P x)
    → (front : List S) (ds : Items) (xs : List A) → EachAfter seen R front ds xs → All P xs
each_after-has seen R P has front no_items [] h = All-nil P
each_after-has seen R P has front no_items (x ∷ xs) h = absurd h
each_after-has seen R P has front (item d ds) [] h = absurd h
each_after-has seen R P has front (item d ds) (x ∷ xs) h = All-cons P x xs (has front d x h.0) (each_after-has seen R P has (front ++ seen x ∷ []) ds xs h.1)

-- the priority list is within its limit
abbrev HasPriorityWithin : Output → Type 0
HasPriorityWithin o = IfSome o.priority (λ list. length list ≤ priority_limit)

priority-within : (kind : Kind) (o : Option Data) (list : Option (List Value)) → Optionally (ArePriorities kind) o list → IfSome list (λ values. length values ≤ priority_limit)
priority-within kind o None h = tt
priority-within kind None (Some list) h = absurd h
priority-within kind (Some d) (Some list) h =
    let within = h.spelled.within in
    let count = each_after-length (λ v. v) (IsPriority kind) [] h.entries list h.spelled.each in
    omega (arith, within, count)

output-within : (t : Table) (taken : List (List ℕ)) (d : Data) (o : Output) → IsOutput t.hit taken d o → HasPriorityWithin o
output-within t taken d o h = priority-within o.kind (get (codes "priority") d) o.priority h.priority

table-within : (names : List InputData) (earlier : List (List SeenOutput)) (d : Data) (t : Table) → IsTable names earlier d t → IsTableWithin t
table-within names earlier d t h =
    let inputs = each-length (IsInput names earlier) h.inputs.entries t.inputs h.inputs.each in
    let most_inputs = h.inputs.within in
    let outputs = each_after-length (λ o. o.name) (IsOutput t.hit) _ h.outputs.entries t.outputs h.outputs.each in
    let most_outputs = h.outputs.within in
    let rules = each-length (IsRule names earlier t.inputs t.outputs) h.rules.entries t.rules h.rules.each in
    let most_rules = h.rules.within in
    record {
      inputs = omega (arith, inputs, most_inputs);
      outputs = omega (arith, outputs, most_outputs);
      rules = omega (arith, rules, most_rules);
      priorities = each_after-has (λ o. o.name) (IsOutput t.hit) HasPriorityWithin (output-within t) _ h.outputs.entries t.outputs h.outputs.each;
    }

pub within-document : (d : Data) (p : PlanParts) (h : IsPlanDocument d p) → IsWithin h.names.fields p.tables
within-document d p h =
    let fields = each_after-length (λ f. f.name) IsField _ h.names.entries h.names.fields h.names.spelled.each in
    let most_fields = h.names.spelled.within in
    let tables = each_after-length seen_of (IsTable p.names) [] h.tables.entries p.tables h.tables.spelled.each in
    let most_tables = h.tables.spelled.within in
    record {
      few_fields = omega (arith, fields, most_fields);
      few_tables = omega (arith, tables, most_tables);
      each_table = each_after-has seen_of (IsTable p.names) IsTableWithin (table-within p.names) [] h.tables.entries p.tables h.tables.spelled.each;
    }
