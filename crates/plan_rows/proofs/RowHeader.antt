-- The columns of the header of a file of rows, one after another.
use Rattle.std.proofs.Common.{◌≡◌, ◌≢◌, ◌<◌, ◌+◌, inl, inr, ℕ, zero, suc, true, false, ◌||◌, List, [], ◌∷◌, ◌++◌, length, take, Option, Some, None, is_some, refl, sym, ap, ◌∙◌, arith}
use Rattle.std.specs.List.{AllZip, position}
use Rattle.std.specs.Option.{option_map}
use Rattle.std.specs.Str.{bytes_eq}
use Rattle.std.proofs.lemmas.Bool.{false≢true, and_parts, cases_Bool}
use Rattle.std.proofs.lemmas.List.{length-take-le}
use Rattle.std.proofs.lemmas.Option.{none-some}
use Rattle.csv.specs.Records.{field_at}
use Rattle.intake_csv.specs.Records.{Fields}
use Rattle.intake_csv.proofs.Lists.{AllZip-grow, field_at-get_or}
use Rattle.tables.specs.declared.table.InputData.{InputData}
use Rattle.tables.specs.Environment.{or_else}
use Rattle.tables.specs.Inputs.{needs}
use Rattle.tables.specs.Plan.{PlanParts}
use Rattle.plan_rows.specs.declared.columns.Column.{Column}
use Rattle.plan_rows.specs.declared.columns.Use.{Use}
use Rattle.plan_rows.specs.declared.columns.Use.TheVariants.{Given, Expected, Settled, Fault, Carried}
use Rattle.plan_rows.specs.Columns.{AreOfNames, IsGivenBy, IsUngiven, expects_settlement, is_of_claim, is_repeated, is_settled_use, settles}
use Rattle.plan_rows.specs.RowColumns.{AreRowColumns, IsRowColumn, carried_use, is_taken, row_use}
use Rattle.plan_rows.specs.RowsStop.{IsGivenAgain, IsTakenColumn, LacksName}
use Rattle.plan_rows.proofs.HeaderColumns.{field_at-front, given_or, names_more, repeated_at}

-- a column that is carried over gives no value
carried_gives_none : (plan : PlanParts) (name : List ℕ) (place : ℕ) → carried_use plan name ≢ Some (Given place)
carried_gives_none plan name place is =
    elim (cases_Bool (is_taken plan name)) [
      | inl taken ↦ absurd (cc (rw taken at is))
      | inr other ↦ absurd (cc (rw other at is))
    ]

-- the name of a column that gives a value
record NamedBy (plan : PlanParts) (names : Fields) (column place : ℕ) : Type 0 where
  pub name : List ℕ
  pub present : field_at names column ≡ Some name
  pub used : row_use plan name ≡ Some (Given place)

named_by : (plan : PlanParts) (names : Fields) (columns : List Column) (column place : ℕ) → AllZip (IsRowColumn plan) names columns → IsGivenBy columns column place → NamedBy plan names column place
unfolding field_at
named_by plan [] [] column place each given = absurd (none-some (Given place) given)
named_by plan [] (c ∷ cs) column place each given = absurd each
named_by plan (n ∷ ns) [] column place each given = absurd each
named_by plan (n ∷ ns) (c ∷ cs) zero place each given = record { name = n; present = refl; used = each.0 ∙ given }
named_by plan (n ∷ ns) (c ∷ cs) (suc column) place each given =
    let rest = named_by plan ns cs column place each.1 given in
    record { name = rest.name; present = rest.present; used = rest.used }

-- the columns of a header give names of the plan
pub are_of_names : (plan : PlanParts) (names : Fields) (columns : List Column) → AllZip (IsRowColumn plan) names columns → AreOfNames plan.names columns
are_of_names plan names columns each = λ column place given.
    let by = named_by plan names columns column place each given in
    given_or plan by.name (carried_use plan by.name) place (carried_gives_none plan by.name place) by.used

module _ (plan : PlanParts) (header : Fields) (place : ℕ) (name : List ℕ) (present : field_at header place ≡ Some name) where
  -- the columns of one more name
  pub columns_pushed : (before after : List Column) (column : Column) → after ≡ before ++ column ∷ [] → row_use plan name ≡ Some column.used
      → AllZip (IsRowColumn plan) (take place header) before → AllZip (IsRowColumn plan) (take (place + 1) header) after
  columns_pushed before after column pushed used each =
      rw (pushed, names_more header place name present) (AllZip-grow (IsRowColumn plan) (take place header) before name column each used)

  -- the name of a further column of the result
  pub taken_column : row_use plan name ≡ None → IsTakenColumn plan header (place + 1)
  taken_column taken = record { place = place; counted = refl; name = name; present = present; taken = taken }

  -- the name of a column that gives a name again
  pub given_again : (columns : List Column) (used : Use) → place < length header → AllZip (IsRowColumn plan) (take place header) columns → row_use plan name ≡ Some used
      → is_repeated columns used ≡ true → IsGivenAgain plan header (place + 1)
  given_again columns used within each is again =
      let r = repeated_at columns used again in
      let by = named_by plan (take place header) columns r.2.column r.0 each r.2.by in
      let inside = (field_at-get_or (take place header) r.2.column by.name by.present).0 in
      let size = length-take-le place header (omega (arith, within)) in
      record {
        place = place;
        counted = refl;
        name = name;
        present = present;
        earlier = r.2.column;
        before = omega (arith, inside, size);
        earlier_name = by.name;
        there = field_at-front header place r.2.column by.name by.present;
        given = r.0;
        gives = is ∙ ap Some r.1;
        same = by.used;
      }

-- a column of a row expects no part of a settlement
unsettled : (plan : PlanParts) (name : List ℕ) (used : Use) → row_use plan name ≡ Some used → is_settled_use used ≡ false
unsettled plan name (Settled part) is = by (position (λ (d : InputData). bytes_eq d.name name) plan.names) is where
  by : (found : Option ℕ) → or_else (option_map Given found) (carried_use plan name) ≡ Some (Settled part) → is_settled_use (Settled part) ≡ false
  by (Some place) same = absurd (cc same)
  by None same =
      elim (cases_Bool (is_taken plan name)) [
        | inl taken ↦ absurd (cc (rw taken at same))
        | inr other ↦ absurd (cc (rw other at same))
      ]
unsettled plan name (Given place) is = refl
unsettled plan name Expected is = refl
unsettled plan name Fault is = refl
unsettled plan name Carried is = refl

expect_none : (plan : PlanParts) (names : Fields) (columns : List Column) → AllZip (IsRowColumn plan) names columns → expects_settlement columns ≡ false
expect_none plan [] [] each = refl
expect_none plan [] (c ∷ cs) each = absurd each
expect_none plan (n ∷ ns) [] each = absurd each
expect_none plan (n ∷ ns) (c ∷ cs) each = ap (λ b. b || expects_settlement cs) (unsettled plan n c.used each.0) ∙ expect_none plan ns cs each.1

-- a name that is needed for a row is one that a table reads
pub lacks_name : (plan : PlanParts) (header : Fields) (columns : List Column) (name : List ℕ) → AreRowColumns plan header columns → IsUngiven plan columns name → LacksName plan header name
lacks_name plan header columns name are missing =
    record {
      columns = columns;
      are_columns = are;
      place = missing.place;
      input = missing.input;
      present = missing.present;
      named = missing.named;
      read = elim (cases_Bool (needs plan.tables missing.place)) [
        | inl read ↦ read
        | inr unread ↦
            let settled = (and_parts (settles plan columns) (is_of_claim plan missing.place) (rw unread at missing.needed)).0 in
            let expects = (and_parts (is_some plan.roles) (expects_settlement columns) settled).1 in
            absurd (false≢true (sym (expect_none plan header columns are.each) ∙ expects))
      ];
      missing = missing.missing;
    }
