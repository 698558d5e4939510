use Rattle.std.proofs.Common.{◌<◌, ◌∙◌, length, sym, subst, rules, arith}
use Rattle.std.proofs.lemmas.Grind.{common_steps}
use Rattle.csv.specs.Records.{fields_of}
use Rattle.plan_rows.specs.Columns.{AreApart}
use Rattle.plan_rows.proofs.HeaderColumns.{apart_pushed, columns_pushed, repeated_column, unknown_column}
use Rattle.plan_rows.proofs.columns.list_columns.Goals as goal

pub returns-in_default-clause-refused : goal.returns-in_default-clause-refused
returns-in_default-clause-refused c =
    let within : c.loop-place.place < length (fields_of c.args.header.now) = search rules in
    unknown_column _ _ c.loop-place.place within c.in_default.ensures.unknown

pub returns-then-is_repeated-clause-refused : goal.returns-then-is_repeated-clause-refused
returns-then-is_repeated-clause-refused c =
    let within : c.loop-place.place < length (fields_of c.args.header.now) = search rules in
    let same = rw c.as_slice.ensures.value at c.is_repeated.ensures in
    let again = sym same ∙ c.if-is_repeated.true in
    repeated_column _ _ c.loop-place.place _ _ within c.loop-place.invariant.0 c.in-Some.ensures.column again

pub loop-place-preserved : goal.loop-place-preserved
loop-place-preserved c =
    let same = rw c.as_slice.ensures.value at c.is_repeated.ensures in
    let fresh = sym same ∙ c.if-is_repeated.false in
    let pushed = c.in_ok-push.ensures.items in (
      columns_pushed _ _ c.loop-place.place _ _ _ pushed c.in-Some.ensures.column c.loop-place.invariant.0,
      subst AreApart (sym pushed) (apart_pushed _ _ c.loop-place.invariant.1 fresh),
    )

pub returns-clause-columns : goal.returns-clause-columns
returns-clause-columns c = grind (arith, common_steps)

pub loop-place-init : goal.loop-place-init
loop-place-init c = grind (arith, common_steps)

pub overflow_add-result-then-is_repeated : goal.overflow_add-result-then-is_repeated
overflow_add-result-then-is_repeated c = grind (arith, common_steps)
