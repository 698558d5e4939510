-- Entries and parts that make inputs, outputs, rules or a table meaningless.
use Rattle.std.proofs.Common.{◌≡◌, ℕ, ◌+◌, ◌<◌, ◌≤◌, true, false, List, [], ◌∷◌, ◌++◌, length, map, codes, Some, take, get_or, subst, sym, ◌∙◌, arith}
use Rattle.std.proofs.lemmas.Bool.{false≢true}
use Rattle.std.proofs.lemmas.Option.{same_Some}
use Rattle.std.proofs.lemmas.List.{map-id, take_all}
use Rattle.toml.specs.Data.{Data, Items, get}
use Rattle.toml.specs.View.{view, items_view}
use Rattle.toml.specs.declared.value.Value.{Value as Entry}
use Rattle.feel_tests.specs.declared.kind.Kind.{Kind}
use Rattle.feel_tests.specs.declared.value.Value.{Value}
use Rattle.feel_tests.specs.Cell.{SpellsOneCell, SpellsOneValue}
use Rattle.tables.specs.declared.hit.Hit.{Hit}
use Rattle.tables.specs.declared.table.InputData.{InputData}
use Rattle.tables.specs.declared.table.Input.{Input}
use Rattle.tables.specs.declared.table.Output.{Output}
use Rattle.tables.specs.declared.table.Rule.{Rule}
use Rattle.tables.specs.declared.table.Table.{Table}
use Rattle.dtable.specs.Document.{array_at, item_count, EachAfter, EachUnder}
use Rattle.tables.specs.Plan.{satisfies_constraints}
use Rattle.dtable.specs.PlanFile.{IsPriority, ArePriorityEntries, IsRow, IsHit, IsInput, IsOutput, IsRule, AreInputs, AreOutputs, AreRules, IsTable, AreTables}
use Rattle.dtable.specs.Scope.{SeenOutput, seen_of, taken_names}
use Rattle.dtable.proofs.Entries.{Each-none, EachAfter-more, EachAfter-none, EachUnder-none, EachUnder-count}
use Rattle.dtable.proofs.ReadParts.{IsPriority-same, IsNamed-same, IsHit-same, AreInputs-same, AreOutputs-same, IsTable-seen}

-- an entry that is not an input leaves no inputs
pub AreInputs-none : (names : List InputData) (earlier : List (List SeenOutput)) (entry : Data) (vs : List Entry) (k : ℕ) (v : Entry) → array_at (codes "inputs") entry ≡ Some (items_view vs) → k < length vs → v ≡ get_or vs k v
    → ((i : Input) → ¬ IsInput names earlier (view v) i) → (is : List Input) → ¬ AreInputs names earlier entry is
AreInputs-none names earlier entry vs k v read within here none is h =
    let same : h.entries ≡ items_view vs = same_Some h.entries (items_view vs) (sym h.written ∙ read) in
    Each-none (IsInput names earlier) vs k v is within here none (rw same at h.each)

IsOutput-name : (hit : Hit) (taken : List (List ℕ)) (d : Data) (o p : Output) → IsOutput hit taken d o → IsOutput hit taken d p → o.name ≡ p.name
IsOutput-name hit taken d o p h k = IsNamed-same d o.name p.name h.name.named k.name.named

-- an entry that is not an output, in view of the outputs before it, leaves no outputs
pub AreOutputs-none : (hit : Hit) (taken : List (List ℕ)) (entry : Data) (vs : List Entry) (k : ℕ) (v : Entry) (os : List Output) → array_at (codes "outputs") entry ≡ Some (items_view vs) → k < length vs → v ≡ get_or vs k v
    → EachAfter (λ o. o.name) (IsOutput hit) taken (items_view (take k vs)) os → ((o : Output) → ¬ IsOutput hit (taken ++ map (λ p. p.name) os) (view v) o) → (ps : List Output) → ¬ AreOutputs hit taken entry ps
AreOutputs-none hit taken entry vs k v os read within here before none ps h =
    let same : h.entries ≡ items_view vs = same_Some h.entries (items_view vs) (sym h.written ∙ read) in
    EachAfter-none (λ o. o.name) (IsOutput hit) (IsOutput-name hit) taken vs k v os ps within here before none (rw same at h.each)

-- a priority list, extended by one value, and an entry that is not a priority
pub ArePriorities-more : (kind : Kind) (vs : List Entry) (k : ℕ) (v : Entry) (list : List Value) (w : Value) → k < length vs → v ≡ get_or vs k v → EachAfter (λ x. x) (IsPriority kind) [] (items_view (take k vs)) list
    → IsPriority kind list (view v) w → EachAfter (λ x. x) (IsPriority kind) [] (items_view (take (k + 1) vs)) (list ++ w ∷ [])
ArePriorities-more kind vs k v list w within here before last = EachAfter-more (λ x. x) (IsPriority kind) [] vs k v list w within here before (rw (map-id list) last)

pub ArePriorities-none : SpellsOneValue → (kind : Kind) (vs : List Entry) (k : ℕ) (v : Entry) (list more : List Value) → k < length vs → v ≡ get_or vs k v → EachAfter (λ x. x) (IsPriority kind) [] (items_view (take k vs)) list
    → ((w : Value) → ¬ IsPriority kind list (view v) w) → ¬ ArePriorityEntries kind (items_view vs) more
ArePriorities-none once kind vs k v list more within here before none h =
    EachAfter-none (λ x. x) (IsPriority kind) (IsPriority-same once kind) [] vs k v list more within here before (λ w p. none w (rw (map-id list) at p)) h.each

-- an entry that is not a rule leaves no rules
pub AreRules-none : (names : List InputData) (earlier : List (List SeenOutput)) (is : List Input) (os : List Output) (entry : Data) (vs : List Entry) (k : ℕ) (v : Entry) → array_at (codes "rules") entry ≡ Some (items_view vs) → k < length vs → v ≡ get_or vs k v
    → ((r : Rule) → ¬ IsRule names earlier is os (view v) r) → (rs : List Rule) → ¬ AreRules names earlier is os entry rs
AreRules-none names earlier is os entry vs k v read within here none rs h =
    let same : h.entries ≡ items_view vs = same_Some h.entries (items_view vs) (sym h.written ∙ read) in
    Each-none (IsRule names earlier is os) vs k v rs within here none (rw same at h.each)

-- a row of the wrong length, or with an entry that is wrong in its column
module _ {C A : Type 0} (R : C → Data → A → Type 0) where
  pub IsRow-none : (cs : List C) (c : C) (key : List ℕ) (rule : Data) (vs : List Entry) (v : Entry) (k : ℕ) → array_at key rule ≡ Some (items_view vs) → length vs ≡ length cs → c ≡ get_or cs k c → k < length vs → v ≡ get_or vs k v
      → ((x : A) → ¬ R c (view v) x) → (xs : List A) → ¬ IsRow R cs key rule xs
  IsRow-none cs c key rule vs v k read lengths at_column within here none xs h =
      let same : h.entries ≡ items_view vs = same_Some h.entries (items_view vs) (sym h.written ∙ read) in
      EachUnder-none R cs c vs v k xs (omega arith) at_column within here none (rw same at h.each)

  pub IsRow-length : (cs : List C) (key : List ℕ) (rule : Data) (n : ℕ) → n ≡ length cs → ((ds : Items) → array_at key rule ≡ Some ds → item_count ds ≡ n → ⊥) → (xs : List A) → ¬ IsRow R cs key rule xs
  IsRow-length cs key rule n columns none xs h = none h.entries h.written (EachUnder-count R cs h.entries xs h.each ∙ sym columns)

  -- a row of which each entry is read
  pub IsRow-read : (cs : List C) (key : List ℕ) (rule : Data) (vs : List Entry) (k : ℕ) (xs : List A) → array_at key rule ≡ Some (items_view vs) → length vs ≡ length cs → length vs ≤ k
      → EachUnder R (take k cs) (items_view (take k vs)) xs → IsRow R cs key rule xs
  IsRow-read cs key rule vs k xs read lengths past each =
      let columns = subst (λ ds. EachUnder R ds (items_view (take k vs)) xs) (take_all k cs (subst (λ n. n ≤ k) lengths past)) each in
      record { entries = items_view vs; written = read; each = subst (λ ws. EachUnder R cs (items_view ws) xs) (take_all k vs past) columns }

-- a table with a part that is wrong
pub IsTable-no_outputs : (names : List InputData) (earlier : List (List SeenOutput)) (d : Data) (hit : Hit) → IsHit (get (codes "hit") d) hit
    → ((os : List Output) → ¬ AreOutputs hit (taken_names names earlier) d os) → (t : Table) → ¬ IsTable names earlier d t
IsTable-no_outputs names earlier d hit word none t h =
    let hits : t.hit ≡ hit = IsHit-same (get (codes "hit") d) t.hit hit h.hit word in
    none t.outputs (rw hits at h.outputs)

-- the parts of a table that are read before its rules
pub record HasColumns (names : List InputData) (earlier : List (List SeenOutput)) (d : Data) (hit : Hit) (is : List Input) (os : List Output) : Type 0 where
  pub word : IsHit (get (codes "hit") d) hit
  pub inputs : AreInputs names earlier d is
  pub outputs : AreOutputs hit (taken_names names earlier) d os

module _ (once_value : SpellsOneValue) where
  same_outputs : (names : List InputData) (earlier : List (List SeenOutput)) (d : Data) (hit : Hit) (is : List Input) (os : List Output) (t : Table) → HasColumns names earlier d hit is os → IsTable names earlier d t → t.hit ≡ hit → t.outputs ≡ os
  same_outputs names earlier d hit is os t k h hits = AreOutputs-same once_value hit (taken_names names earlier) d t.outputs os (rw hits at h.outputs) k.outputs

  pub IsTable-unmet : (names : List InputData) (earlier : List (List SeenOutput)) (d : Data) (hit : Hit) (is : List Input) (os : List Output) → HasColumns names earlier d hit is os
      → satisfies_constraints hit os ≡ false → (t : Table) → ¬ IsTable names earlier d t
  IsTable-unmet names earlier d hit is os k unmet t h =
      let hits : t.hit ≡ hit = IsHit-same (get (codes "hit") d) t.hit hit h.hit k.word in
      let outputs : t.outputs ≡ os = same_outputs names earlier d hit is os t k h hits in
      let met : satisfies_constraints hit os ≡ true = rw (hits, outputs) at h.demands in
      false≢true (sym unmet ∙ met)

  pub IsTable-no_rules : SpellsOneCell → (names : List InputData) (earlier : List (List SeenOutput)) (d : Data) (hit : Hit) (is : List Input) (os : List Output) → HasColumns names earlier d hit is os
      → ((rs : List Rule) → ¬ AreRules names earlier is os d rs) → (t : Table) → ¬ IsTable names earlier d t
  IsTable-no_rules once_cell names earlier d hit is os k none t h =
      let hits : t.hit ≡ hit = IsHit-same (get (codes "hit") d) t.hit hit h.hit k.word in
      let outputs : t.outputs ≡ os = same_outputs names earlier d hit is os t k h hits in
      let inputs : t.inputs ≡ is = AreInputs-same once_cell names earlier d t.inputs is h.inputs k.inputs in
      none t.rules (rw (inputs, outputs) at h.rules)

  -- an entry that is not a table, in view of the tables before it, leaves no tables
  pub AreTables-none : (names : List InputData) (vs : List Entry) (k : ℕ) (v : Entry) (ts us : List Table) → k < length vs → v ≡ get_or vs k v
      → EachAfter seen_of (IsTable names) [] (items_view (take k vs)) ts → ((t : Table) → ¬ IsTable names (map seen_of ts) (view v) t) → ¬ AreTables names (items_view vs) us
  AreTables-none names vs k v ts us within here before none h =
      EachAfter-none seen_of (IsTable names) (IsTable-seen once_value names) [] vs k v ts us within here before none h.each
