-- The values that the fields of a row give, column by column.
use Rattle.std.proofs.Common.{◌≡◌, ◌≢◌, ◌<◌, ◌+◌, ◌&&◌, ◌||◌, ℕ, zero, suc, List, [], ◌∷◌, length, Option, Some, None, is_some, get_or, slice_get, inl, inr, refl, sym, ap, subst, ◌∙◌, below_more, arith}
use Rattle.std.specs.Option.{option_map, option_and_then}
use Rattle.std.proofs.lemmas.Bool.{cases_eq}
use Rattle.std.proofs.lemmas.Option.{none-some, same_Some, slice_get-get_or}
use Rattle.feel_tests.specs.declared.kind.Kind.{Kind}
use Rattle.feel_tests.specs.declared.value.Value.{Value}
use Rattle.feel_tests.specs.Value.{kind_of}
use Rattle.intake_csv.specs.Records.{Fields}
use Rattle.tables.specs.declared.inputs.Slot.{Slot}
use Rattle.tables.specs.declared.table.InputData.{InputData}
use Rattle.tables.specs.Inputs.{IsReady, Takes, empty_slots, fill_slot, kind_at, value_at}
use Rattle.tables.specs.Plan.{PlanParts}
use Rattle.evaluation.proofs.Givens.{Gives-none}
use Rattle.plan_rows.specs.declared.columns.Column.{Column}
use Rattle.plan_rows.specs.declared.columns.Use.TheVariants.{Given}
use Rattle.plan_rows.specs.Columns.{AreApart, GivesNeeded, GivesRead, IsGivenBy, is_of_claim, settles}
use Rattle.plan_rows.specs.Given.{AreReadBefore, GivesBelow, IsFieldOf, GivesRow, IsReadAt, IsUnreadAt, IsUnreadField, IsValueAt}
use Rattle.plan_rows.proofs.HeaderColumns.{given_at}
use Rattle.plan_rows.proofs.RowLists.{set_same, set_other}

-- an index that takes values is within the slots
takes_within : (given : List Slot) (place : ℕ) (kind : Kind) → Takes given place kind → place < length given
takes_within [] place kind takes = absurd (none-some kind takes)
takes_within (s ∷ ss) zero kind takes = omega arith
takes_within (s ∷ ss) (suc place) kind takes = omega (arith, takes_within ss place kind takes)

abbrev slot_with : Value → Slot
slot_with value = record { kind = kind_of value; value = Some value }

-- the slot that is set has its value
filled_value : (given : List Slot) (place : ℕ) (value : Value) → Takes given place (kind_of value) → value_at (fill_slot given place value) place ≡ Some value
filled_value given place value takes =
    ap (option_and_then (λ (s : Slot). s.value)) (set_same given place (slot_with value) (takes_within given place (kind_of value) takes))

-- every other slot has the value that it had
other_value : (given : List Slot) (place other : ℕ) (value : Value) → other ≢ place → value_at (fill_slot given place value) other ≡ value_at given other
other_value given place other value apart = ap (option_and_then (λ (s : Slot). s.value)) (set_other given place other (slot_with value) apart)

-- the kinds of the slots do not change
filled_kind : (given : List Slot) (place other : ℕ) (value : Value) → Takes given place (kind_of value) → kind_at (fill_slot given place value) other ≡ kind_at given other
filled_kind given place other value takes =
    elim (cases_eq other place) [
      | inl same ↦ subst (λ p. kind_at (fill_slot given place value) p ≡ kind_at given p) (sym same)
          (ap (option_map (λ (s : Slot). s.kind)) (set_same given place (slot_with value) (takes_within given place (kind_of value) takes)) ∙ sym takes)
      | inr apart ↦ ap (option_map (λ (s : Slot). s.kind)) (set_other given place other (slot_with value) apart)
    ]

-- an empty slot has no value
none_yet : (names : List InputData) (place : ℕ) → value_at (empty_slots names) place ≡ None
none_yet [] place = refl
none_yet (d ∷ ds) zero = refl
none_yet (d ∷ ds) (suc place) = none_yet ds place

-- no column has given a value
pub gives_none : (names : List InputData) (columns : List Column) (fields : Fields) → GivesBelow 0 names columns fields (empty_slots names)
gives_none names columns fields =
    let empty = Gives-none names in
    record { kinds = empty.kinds; each = λ column place below given. absurd (omega (arith, below)); others = λ place none. none_yet names place }

-- the next column is for another purpose
pub gives_skip : (end : ℕ) (names : List InputData) (columns : List Column) (fields : Fields) (given : List Slot) → GivesBelow end names columns fields given
    → ((place : ℕ) → ¬ IsGivenBy columns end place) → GivesBelow (end + 1) names columns fields given
gives_skip end names columns fields given before none = record {
  kinds = before.kinds;
  each = λ column place below by.
      below_more (λ k. (p : ℕ) → IsGivenBy columns k p → IsReadAt names fields given k p) end (λ k within p g. before.each k p within g) (λ p g. absurd (none p g)) column below place by;
  others = λ place absent. before.others place (λ column within. absent column (omega (arith, within)));
}

input_there : (names : List InputData) (place : ℕ) (kind : Kind) → option_map (λ (d : InputData). d.kind) (slice_get names place) ≡ Some kind
    → (input : InputData) × (slice_get names place ≡ Some input) × (input.kind ≡ kind)
input_there names place kind is = by (slice_get names place) refl is where
  by : (found : Option InputData) → slice_get names place ≡ found → option_map (λ (d : InputData). d.kind) found ≡ Some kind
      → (input : InputData) × (slice_get names place ≡ Some input) × (input.kind ≡ kind)
  by None there none = absurd (none-some kind none)
  by (Some input) there some = (input, there, same_Some input.kind kind some)

-- the next column gives the value of a name
pub gives_next : (end : ℕ) (names : List InputData) (columns : List Column) (fields : Fields) (given : List Slot) (place : ℕ) (kind : Kind) (value : Value) → AreApart columns
    → GivesBelow end names columns fields given → IsGivenBy columns end place → option_map (λ (d : InputData). d.kind) (slice_get names place) ≡ Some kind → kind_of value ≡ kind
    → IsValueAt kind fields end value → GivesBelow (end + 1) names columns fields (fill_slot given place value)
gives_next end names columns fields given place kind value apart before by is of_kind read =
    let takes : Takes given place (kind_of value) = before.kinds place ∙ is ∙ ap Some (sym of_kind) in
    let there = input_there names place kind is in
    record {
      kinds = λ other. filled_kind given place other value takes ∙ before.kinds other;
      each = λ column p below gives.
          below_more (λ k. (q : ℕ) → IsGivenBy columns k q → IsReadAt names fields (fill_slot given place value) k q) end
          (λ k within q g.
          let r = before.each k q within g in
          let other : q ≢ place = λ same. let e = apart k end place (subst (λ x. IsGivenBy columns k x) same g) by in omega (arith, within, e) in
          record { input = r.input; named = r.named; value = r.value; read = r.read; found = other_value given place q value other ∙ r.found })
          (λ q g.
          let same : place ≡ q = used_same place q (sym by ∙ g) in
          subst (λ x. IsReadAt names fields (fill_slot given place value) end x) same
          (record {
            input = there.0;
            named = there.1;
            value = value;
            read = subst (λ k. IsValueAt k fields end value) (sym there.2) read;
            found = filled_value given place value takes;
          }))
          column below p gives;
      others = λ p absent.
          let other : p ≢ place = λ same. absent end (omega arith) (subst (λ x. IsGivenBy columns end x) (sym same) by) in
          other_value given place p value other ∙ before.others p (λ column within. absent column (omega (arith, within)));
    } where
      used_same : (one other : ℕ) → Some (Given one) ≡ Some (Given other) → one ≡ other
      used_same one other e = cc e

-- the columns give each name that a table reads if they give each one that is needed
pub gives_read : (plan : PlanParts) (columns : List Column) → GivesNeeded plan columns → GivesRead plan columns
gives_read plan columns needed = λ place read. needed place (ap (λ b. b || (settles plan columns && is_of_claim plan place)) read)

-- the values of a row suffice for the tables
pub row_is_ready : (plan : PlanParts) (columns : List Column) (fields : Fields) (given : List Slot) → GivesRead plan columns → GivesRow plan.names columns fields given → IsReady plan.tables given
row_is_ready plan columns fields given reads gives = λ place read.
    let at = given_at columns place (reads place read) in
    let value = gives.each at.column place at.within at.by in
    ap is_some value.found

-- the column at an index gives a name
pub column_gives : (columns : List Column) (index : ℕ) (d : Column) (place : ℕ) → index < length columns → (get_or columns index d).used ≡ Given place → IsGivenBy columns index place
column_gives columns index d place within used = ap (option_map (λ (c : Column). c.used)) (slice_get-get_or columns index d within) ∙ ap Some used

-- the column at an index gives no name
pub column_gives_none : (columns : List Column) (index : ℕ) (d : Column) → index < length columns → ((place : ℕ) → (get_or columns index d).used ≢ Given place) → (place : ℕ)
    → ¬ IsGivenBy columns index place
column_gives_none columns index d within other place by =
    let there = ap (option_map (λ (c : Column). c.used)) (slice_get-get_or columns index d within) in
    other place (same_Some (get_or columns index d).used (Given place) (sym there ∙ by))

-- the field of a column that gives a value denotes none
pub unread_at : (names : List InputData) (columns : List Column) (fields : Fields) (index place : ℕ) (kind : Kind) → IsGivenBy columns index place
    → option_map (λ (d : InputData). d.kind) (slice_get names place) ≡ Some kind → IsUnreadField kind fields index → IsUnreadAt names columns fields index
unread_at names columns fields index place kind by is unread =
    let there = input_there names place kind is in
    record { place = place; given = by; input = there.0; named = there.1; unread = subst (λ k. IsUnreadField k fields index) (sym there.2) unread }

-- the fields that gave values denote them
pub read_before : (names : List InputData) (columns : List Column) (fields : Fields) (given : List Slot) (index : ℕ) → GivesBelow index names columns fields given
    → AreReadBefore names columns fields index
read_before names columns fields given index below = λ earlier within unread.
    let r = below.each earlier unread.place within unread.given in
    let same = same_Some r.input unread.input (sym r.named ∙ unread.named) in
    let also = same_Some r.read.0 unread.unread.0 (sym r.read.1 ∙ unread.unread.1) in
    let here : IsFieldOf r.input.kind unread.unread.0 r.value = subst (λ f. IsFieldOf r.input.kind f r.value) also r.read.2 in
    unread.unread.2 r.value (subst (λ (d : InputData). IsFieldOf d.kind unread.unread.0 r.value) same here)

-- a column that gives a name is one of the columns
pub given_within : (columns : List Column) (column place : ℕ) → IsGivenBy columns column place → column < length columns
given_within [] column place by = absurd (none-some (Given place) by)
given_within (c ∷ cs) zero place by = omega arith
given_within (c ∷ cs) (suc column) place by = let rest = given_within cs column place by in omega (arith, rest)
