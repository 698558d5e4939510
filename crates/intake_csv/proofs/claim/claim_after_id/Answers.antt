use Rattle.std.proofs.lemmas.Grind.{common_steps}
use Rattle.std.proofs.Common.{arith, length, ◌<◌}
use Rattle.intake_csv.specs.Validated.{IsRefusedUnder}
use Rattle.intake_csv.proofs.Lists.{any-within, all-within, any-at}
use Rattle.intake_csv.proofs.Shapes.{plain-following}
use Rattle.intake_csv.proofs.claim.claim_after_id.Goals as goal

pub returns-in_default-4-clause-none : goal.returns-in_default-4-clause-none
returns-in_default-4-clause-none c =
    let refused = rw c.in_default-4.is at c.in_ok-fields.ensures.none in
    any-within (IsRefusedUnder c.args.row.now) 3 _ c.args.columns.now refused

pub returns-clause-claim : goal.returns-clause-claim
returns-clause-claim c = grind (arith, common_steps)

pub money_of_column-requires-clause-content : goal.money_of_column-requires-clause-content
money_of_column-requires-clause-content c = grind (arith, common_steps)

pub unreachable-requires : goal.unreachable-requires
unreachable-requires c = grind (arith, common_steps)

pub values_of_columns-requires-clause-plain : goal.values_of_columns-requires-clause-plain
values_of_columns-requires-clause-plain c = plain-following _ c.args.columns.now c.requires.columns.0 c.requires.columns.1

pub values_of_columns-requires-clause-within : goal.values_of_columns-requires-clause-within
values_of_columns-requires-clause-within c = all-within (λ column. column.place < length c.args.row.now) 3 _ c.args.columns.now c.requires.within

pub returns-in_default-2-clause-none : goal.returns-in_default-2-clause-none
returns-in_default-2-clause-none c =
    let refused = rw c.in_default-2.is at c.in_ok-member.ensures in
    any-at (IsRefusedUnder c.args.row.now) 0 c.args.columns.now _ (omega (arith, c.in-len3-up.len_at_least)) refused

pub returns-in_default-3-clause-none : goal.returns-in_default-3-clause-none
returns-in_default-3-clause-none c =
    let refused = rw c.in_default-3.is at c.in_ok-service.ensures in
    any-at (IsRefusedUnder c.args.row.now) 1 c.args.columns.now _ (omega (arith, c.in-len3-up.len_at_least)) refused

pub returns-in_default-money_of_column-clause-none : goal.returns-in_default-money_of_column-clause-none
returns-in_default-money_of_column-clause-none c =
    let refused = rw c.in_default-money_of_column.is at c.money_of_column.ensures in
    any-at (IsRefusedUnder c.args.row.now) 2 c.args.columns.now _ (omega (arith, c.in-len3-up.len_at_least)) refused

pub text_of_column-requires-clause-within : goal.text_of_column-requires-clause-within
text_of_column-requires-clause-within c = c.requires.within 0 _ (omega (arith, c.in-len3-up.len_at_least))

pub day_of_column-requires-clause-within : goal.day_of_column-requires-clause-within
day_of_column-requires-clause-within c = c.requires.within 1 _ (omega (arith, c.in-len3-up.len_at_least))

pub money_of_column-requires-clause-within : goal.money_of_column-requires-clause-within
money_of_column-requires-clause-within c = c.requires.within 2 _ (omega (arith, c.in-len3-up.len_at_least))
