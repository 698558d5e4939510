use Rattle.intake_csv.specs.Validated.{IsRefusedUnder}
use Rattle.std.proofs.Common.{[], ◌∷◌, ◌++◌, subst, take}
use Rattle.std.proofs.lemmas.List.{take_all}
use Rattle.intake_csv.specs.Rows.{AreValues, HoldsUnder}
use Rattle.intake_csv.proofs.Lists.{AllZip-grow, grown, any-at}
use Rattle.intake_csv.proofs.column_values.values_of_columns.Goals as goal

pub loop-column-preserved : goal.loop-column-preserved
loop-column-preserved c =
    let row = c.args.row.now in
    let columns = c.args.columns.now in
    let k = c.loop-column.column-index in
    let values = c.loop-column.values in
    let value = c.in-Some.value in
    let holds = rw c.in-Some.is at c.in_ok-value.ensures in
    rw c.in_ok-push.ensures.ok
    (grown (λ front. AreValues row front (values ++ value ∷ [])) columns k _ c.loop-column-test.true
    (AllZip-grow (HoldsUnder row) (take k columns) values _ value c.loop-column.invariant holds))

pub returns-clause-values : goal.returns-clause-values
returns-clause-values c =
    subst (λ columns. AreValues c.args.row.now columns c.loop-column.values) (take_all c.loop-column.column-index c.args.columns.now c.loop-column-test.false) c.loop-column.invariant

pub value_of_column-requires-clause-within : goal.value_of_column-requires-clause-within
value_of_column-requires-clause-within c = c.requires.within c.loop-column.column-index _ c.loop-column-test.true

pub value_of_column-requires-clause-plain : goal.value_of_column-requires-clause-plain
value_of_column-requires-clause-plain c = c.requires.plain c.loop-column.column-index _ c.loop-column-test.true

pub returns-in_default-clause-none : goal.returns-in_default-clause-none
returns-in_default-clause-none c =
    let refused = rw c.in_default.is at c.in_ok-value.ensures in
    any-at (IsRefusedUnder c.args.row.now) c.loop-column.column-index c.args.columns.now _ c.loop-column-test.true refused
