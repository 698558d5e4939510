-- The columns of a header, one after another.
use Rattle.std.proofs.Common.{◌≡◌, ◌≢◌, ◌<◌, ◌≤◌, ◌+◌, ◌⊎◌, inl, inr, ℕ, zero, suc, Bool, true, false, List, [], ◌∷◌, ◌++◌, length, nat_lt, take, drop, get_or, Option, Some, None, IsSome, IsTrue, slice_get, refl, sym, ap, subst, ◌∙◌, arith}
use Rattle.std.specs.Prelude.{find}
use Rattle.std.specs.List.{AllZip, position}
use Rattle.std.specs.Option.{option_map}
use Rattle.std.specs.Str.{bytes_eq}
use Rattle.std.proofs.lemmas.Bool.{false≢true, and_parts, cases_Bool, ltb-true}
use Rattle.std.proofs.lemmas.Bool.Decides.{Decides-eqb}
use Rattle.std.proofs.lemmas.List.{length-take-le, take-append-drop, take_more}
use Rattle.std.proofs.lemmas.List.Quantifiers.{position-Some}
use Rattle.std.proofs.lemmas.Option.{same_Some, none-some}
use Rattle.csv.specs.Records.{field_at}
use Rattle.intake_csv.specs.Records.{Fields}
use Rattle.intake_csv.proofs.Lists.{AllZip-grow, field_at-append, field_at-get_or, field_at-within}
use Rattle.tables.specs.declared.table.InputData.{InputData}
use Rattle.tables.specs.declared.roles.Roles.{Roles}
use Rattle.tables.specs.Environment.{or_else}
use Rattle.tables.specs.Inputs.{needs}
use Rattle.tables.specs.Plan.{IsPlan, PlanParts}
use Rattle.tables.proofs.NeededNames.{within_names}
use Rattle.plan_rows.specs.declared.columns.Column.{Column}
use Rattle.plan_rows.specs.declared.columns.Use.{Use}
use Rattle.plan_rows.specs.declared.columns.Use.TheVariants.{Given, Expected, Settled, Fault, Carried}
use Rattle.plan_rows.specs.declared.part.Part.{Part}
use Rattle.plan_rows.specs.Parts.{is_part_name, parts}
use Rattle.plan_rows.specs.Columns.{AreApart, AreOfNames, IsColumn, IsColumnAt, IsGivenBy, IsUnknownAt, expected_use, fault_use, fault_word, gives, gives_place, is_needed, is_of_claim, is_output, is_repeated, settled_use, settles, use_of, use_or}
use Rattle.plan_rows.specs.Filing.{first_accumulator, member_place}
use Rattle.plan_rows.specs.Stop.{IsRepeatedColumn, IsUnknownColumn}
use Rattle.plan_rows.proofs.RowLists.{some_passes, none_passes}

fault_gives_none : (name : List ℕ) (place : ℕ) → fault_use name ≢ Some (Given place)
fault_gives_none name place is =
    elim (cases_Bool (bytes_eq name fault_word)) [
      | inl fault ↦ absurd (cc (rw fault at is))
      | inr other ↦ absurd (cc (rw other at is))
    ]

-- a column that expects a part of a settlement gives no value
settled_gives_none : (roles : Option Roles) (name : List ℕ) (rest : Option Use) (place : ℕ) → rest ≢ Some (Given place) → or_else (settled_use roles name) rest ≢ Some (Given place)
settled_gives_none None name rest place none is = none is
settled_gives_none (Some roles) name rest place none is = by (find (λ part. is_part_name part name) parts) is where
  by : (found : Option Part) → or_else (option_map Settled found) rest ≡ Some (Given place) → ⊥
  by None same = none same
  by (Some part) same = absurd (cc same)

-- a column that is not for a name of the plan gives no value
expected_gives_none : (plan : PlanParts) (name : List ℕ) (place : ℕ) → expected_use plan name ≢ Some (Given place)
expected_gives_none plan name place is =
    elim (cases_Bool (is_output plan.tables name)) [
      | inl output ↦ absurd (cc (rw output at is))
      | inr none ↦ settled_gives_none plan.roles name (fault_use name) place (fault_gives_none name place) (rw none at is)
    ]

first_given : (found : Option ℕ) (rest : Option Use) (place : ℕ) → rest ≢ Some (Given place) → or_else (option_map Given found) rest ≡ Some (Given place) → found ≡ Some place
first_given None rest place none is = absurd (none is)
first_given (Some other) rest place none is = let same : other ≡ place = cc is in ap Some same

-- the use of a name that was looked up
module _ (plan : PlanParts) (name : List ℕ) (other : Option Use) (found : Option ℕ) (looked : found ≡ position (λ (d : InputData). bytes_eq d.name name) plan.names) where
  use_by : or_else (option_map Given found) other ≡ use_or plan name other
  use_by = ap (λ f. or_else (option_map Given f) other) looked

  pub use_given : (place : ℕ) → found ≡ Some place → Some (Given place) ≡ use_or plan name other
  use_given place is = ap (λ f. or_else (option_map Given f) other) (sym is) ∙ use_by

  pub use_other : (used : Option Use) → found ≡ None → used ≡ other → used ≡ use_or plan name other
  use_other used none same = same ∙ ap (λ f. or_else (option_map Given f) other) (sym none) ∙ use_by

-- a name that gives a value is one of the plan's names, whatever other names are for
pub given_or : (plan : PlanParts) (name : List ℕ) (other : Option Use) (place : ℕ) → other ≢ Some (Given place) → use_or plan name other ≡ Some (Given place)
    → IsSome (slice_get plan.names place)
given_or plan name other place none is =
    let test : InputData → Bool = λ d. bytes_eq d.name name in
    let found : position test plan.names ≡ Some place = first_given (position test plan.names) other place none is in
    within_some plan.names test place found where
      some_at : {A : Type 0} (xs : List A) (i : ℕ) → i < length xs → IsSome (slice_get xs i)
      some_at [] i within = absurd (omega (arith, within))
      some_at (x ∷ xs) zero within = refl
      some_at (x ∷ xs) (suc i) within = some_at xs i (omega (arith, within))

      within_some : (names : List InputData) (test : InputData → Bool) (i : ℕ) → position test names ≡ Some i → IsSome (slice_get names i)
      within_some [] test i found = absurd (cc found)
      within_some (d ∷ ds) test i found = some_at (d ∷ ds) i (position-Some test (d ∷ ds) i d found).0

-- a name that gives a value is one of the plan's names
pub given_name : (plan : PlanParts) (name : List ℕ) (place : ℕ) → use_of plan name ≡ Some (Given place) → IsSome (slice_get plan.names place)
given_name plan name place is = given_or plan name (expected_use plan name) place (expected_gives_none plan name place) is

-- the name of a column that gives a value
pub record NamedBy (plan : PlanParts) (names : Fields) (column place : ℕ) : Type 0 where
  pub name : List ℕ
  pub present : field_at names column ≡ Some name
  pub used : use_of plan name ≡ Some (Given place)

pub named_by : (plan : PlanParts) (names : Fields) (columns : List Column) (column place : ℕ) → AllZip (IsColumn plan) names columns → IsGivenBy columns column place
    → NamedBy plan names column place
unfolding field_at
named_by plan [] [] column place each given = absurd (none-some (Given place) given)
named_by plan [] (c ∷ cs) column place each given = absurd each
named_by plan (n ∷ ns) [] column place each given = absurd each
named_by plan (n ∷ ns) (c ∷ cs) zero place each given = record { name = n; present = refl; used = each.0.used ∙ given }
named_by plan (n ∷ ns) (c ∷ cs) (suc column) place each given =
    let rest = named_by plan ns cs column place each.1 given in
    record { name = rest.name; present = rest.present; used = rest.used }

-- the columns of a header give names of the plan
pub are_of_names : (plan : PlanParts) (names : Fields) (columns : List Column) → AllZip (IsColumn plan) names columns → AreOfNames plan.names columns
are_of_names plan names columns each = λ column place given. let by = named_by plan names columns column place each given in given_name plan by.name place by.used

-- a column that gives a value is an earlier one or the appended one
given_pushed : (columns : List Column) (c : Column) (column place : ℕ) → IsGivenBy (columns ++ c ∷ []) column place
    → IsGivenBy columns column place ⊎ ((column ≡ length columns) × (c.used ≡ Given place))
given_pushed [] c zero place given = inr (refl, same_Some c.used (Given place) given)
given_pushed [] c (suc column) place given = absurd (none-some (Given place) given)
given_pushed (b ∷ bs) c zero place given = inl given
given_pushed (b ∷ bs) c (suc column) place given =
    elim (given_pushed bs c column place given) [
      | inl earlier ↦ inl earlier
      | inr last ↦ inr (ap suc last.0, last.1)
    ]

-- a column that gives a name, by the test
gives_by : (columns : List Column) (column place : ℕ) → gives columns place ≡ false → ¬ IsGivenBy columns column place
gives_by [] column place none given = absurd (none-some (Given place) given)
gives_by (c ∷ cs) zero place none given =
    let used : c.used ≡ Given place = same_Some c.used (Given place) given in
    let here : gives_place place c.used ≡ true = ap (gives_place place) used ∙ (Decides-eqb place place).1 refl in
    absurd (false≢true (sym (none_passes (λ (x : Column). gives_place place x.used) (c ∷ cs) 0 c none refl) ∙ here))
gives_by (c ∷ cs) (suc column) place none given =
    elim (cases_Bool (gives_place place c.used)) [
      | inl passes ↦ absurd (false≢true (sym (rw passes at none)))
      | inr fails ↦ gives_by cs column place (rw fails at none) given
    ]

fresh_place : (columns : List Column) (used : Use) (place column : ℕ) → is_repeated columns used ≡ false → used ≡ Given place → ¬ IsGivenBy columns column place
fresh_place columns (Given p) place column fresh is = let same : p ≡ place = cc is in gives_by columns column place (subst (λ q. gives columns q ≡ false) same fresh)
fresh_place columns Expected place column fresh is = absurd (cc is)
fresh_place columns (Settled part) place column fresh is = absurd (cc is)
fresh_place columns Fault place column fresh is = absurd (cc is)
fresh_place columns Carried place column fresh is = absurd (cc is)

-- one more column that gives no name again
pub apart_pushed : (columns : List Column) (c : Column) → AreApart columns → is_repeated columns c.used ≡ false → AreApart (columns ++ c ∷ [])
apart_pushed columns c apart fresh = λ one other place first second.
    elim (given_pushed columns c one place first) [
      | inl before ↦ elim (given_pushed columns c other place second) [
        | inl again ↦ apart one other place before again
        | inr last ↦ absurd (fresh_place columns c.used place one fresh last.1 before)
      ]
      | inr last ↦ elim (given_pushed columns c other place second) [
        | inl before ↦ absurd (fresh_place columns c.used place other fresh last.1 before)
        | inr also ↦ last.0 ∙ sym also.0
      ]
    ]

-- the names up to a place, with the name at the place
pub names_more : (header : Fields) (place : ℕ) (name : List ℕ) → field_at header place ≡ Some name → take (place + 1) header ≡ take place header ++ name ∷ []
names_more header place name present =
    let at = field_at-get_or header place name present in
    take_more header place [] at.0 ∙ ap (λ n. take place header ++ n ∷ []) at.1

given_use : (used : Use) (place : ℕ) → gives_place place used ≡ true → used ≡ Given place
given_use (Given other) place same = ap Given ((Decides-eqb other place).0 same)
given_use Expected place same = absurd (false≢true same)
given_use (Settled part) place same = absurd (false≢true same)
given_use Fault place same = absurd (false≢true same)
given_use Carried place same = absurd (false≢true same)

-- a column that gives the name at an index
pub record GivenAt (columns : List Column) (place : ℕ) : Type 0 where
  pub column : ℕ
  pub within : column < length columns
  pub by : IsGivenBy columns column place

pub given_at : (columns : List Column) (place : ℕ) → gives columns place ≡ true → GivenAt columns place
given_at columns place some =
    let p = some_passes (λ (c : Column). gives_place place c.used) columns some in
    record { column = p.index; within = p.within; by = ap (option_map (λ (c : Column). c.used)) p.present ∙ ap Some (given_use p.item.used place p.passes) }

-- a column that gives the name of a use again
pub repeated_at : (columns : List Column) (used : Use) → is_repeated columns used ≡ true → (place : ℕ) × (used ≡ Given place) × GivenAt columns place
repeated_at columns (Given place) repeated = (place, refl, given_at columns place repeated)
repeated_at columns Expected repeated = absurd (false≢true repeated)
repeated_at columns (Settled part) repeated = absurd (false≢true repeated)
repeated_at columns Fault repeated = absurd (false≢true repeated)
repeated_at columns Carried repeated = absurd (false≢true repeated)

-- the columns of one more name
pub columns_pushed : (plan : PlanParts) (header : Fields) (place : ℕ) (before after : List Column) (column : Column) → after ≡ before ++ column ∷ [] → IsColumnAt plan header place column
    → AllZip (IsColumn plan) (take place header) before → AllZip (IsColumn plan) (take (place + 1) header) after
columns_pushed plan header place before after column pushed at each =
    let name = column.name.now in
    rw (pushed, names_more header place name at.present) (AllZip-grow (IsColumn plan) (take place header) before name column each (record { named = refl; used = at.used }))

-- the name of a column that nothing can have
pub unknown_column : (plan : PlanParts) (header : Fields) (place : ℕ) → place < length header → IsUnknownAt plan header place → IsUnknownColumn plan header (place + 1)
unknown_column plan header place within unknown =
    record { place = place; counted = refl; name = get_or header place []; present = field_at-within header place within; unknown = unknown }

pub field_at-front : (header : Fields) (count place : ℕ) (name : List ℕ) → field_at (take count header) place ≡ Some name → field_at header place ≡ Some name
field_at-front header count place name there =
    subst (λ h. field_at h place ≡ Some name) (take-append-drop count header) (field_at-append (take count header) (drop count header) place name there)

-- the name of a column that gives a name again
pub repeated_column : (plan : PlanParts) (header : Fields) (place : ℕ) (columns : List Column) (column : Column) → place < length header → AllZip (IsColumn plan) (take place header) columns
    → IsColumnAt plan header place column → is_repeated columns column.used ≡ true → IsRepeatedColumn plan header (place + 1)
repeated_column plan header place columns column within each at again =
    let r = repeated_at columns column.used again in
    let by = named_by plan (take place header) columns r.2.column r.0 each r.2.by in
    let inside = (field_at-get_or (take place header) r.2.column by.name by.present).0 in
    let size = length-take-le place header (omega (arith, within)) in
    record {
      place = place;
      counted = refl;
      name = column.name.now;
      present = at.present;
      earlier = r.2.column;
      before = omega (arith, inside, size);
      earlier_name = by.name;
      there = field_at-front header place r.2.column by.name by.present;
      given = r.0;
      gives = at.used ∙ ap Some r.1;
      same = by.used;
    }

-- a name that is needed is one of the plan's names
pub needed_within : (plan : PlanParts) (columns : List Column) (place : ℕ) → IsPlan plan → IsTrue (is_needed plan columns place) → place < length plan.names
needed_within plan columns place sound needed =
    elim (cases_Bool (needs plan.tables place)) [
      | inl read ↦ within_names plan place sound read
      | inr unread ↦
          let both = and_parts (settles plan columns) (is_of_claim plan place) (rw unread at needed) in
          let bounds = and_parts (nat_lt (member_place plan) place) (nat_lt place (first_accumulator plan)) both.1 in
          let below = ltb-true place (first_accumulator plan) bounds.1 in
          omega (arith, below, accumulators_within plan)
    ] where
      accumulators_within : (p : PlanParts) → first_accumulator p ≤ length p.names
      accumulators_within p = omega arith
