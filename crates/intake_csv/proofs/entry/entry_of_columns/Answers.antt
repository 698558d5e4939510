use Rattle.std.proofs.Common.{ℕ, subst}
use Rattle.feel_tests.specs.declared.value.Value.TheVariants.{Text}
use Rattle.intake_csv.specs.Balances.{Entry, HoldsAt}
use Rattle.intake_csv.specs.Validated.{IsRefusedUnder}
use Rattle.intake_csv.proofs.EntryColumns.{entry-held, entry-kept, held-at, member-content, member-within}
use Rattle.intake_csv.proofs.Lists.{any-at}
use Rattle.intake_csv.proofs.entry.entry_of_columns.Goals as goal

pub bounds-columns-member_place : goal.bounds-columns-member_place
bounds-columns-member_place c = rw c.member_place.ensures.value (member-within c.args.version c.args.columns.now c.requires.contents)

pub identifier_of_column-requires-clause-within : goal.identifier_of_column-requires-clause-within
identifier_of_column-requires-clause-within c =
    c.requires.within c.member_place.result _ (rw c.member_place.ensures.value (member-within c.args.version c.args.columns.now c.requires.contents))

pub identifier_of_column-requires-clause-content : goal.identifier_of_column-requires-clause-content
identifier_of_column-requires-clause-content c = rw c.member_place.ensures.value (member-content c.args.version c.args.columns.now c.requires.contents _)

pub family_of_columns-requires-clause-within : goal.family_of_columns-requires-clause-within
family_of_columns-requires-clause-within c = c.requires.within

pub year_of_columns-requires-clause-within : goal.year_of_columns-requires-clause-within
year_of_columns-requires-clause-within c = c.requires.within

pub balance_of_columns-requires-clause-within : goal.balance_of_columns-requires-clause-within
balance_of_columns-requires-clause-within c = c.requires.within

pub balance_of_columns-requires-clause-contents : goal.balance_of_columns-requires-clause-contents
balance_of_columns-requires-clause-contents c = c.requires.contents

pub returns-in_err-member-clause-none : goal.returns-in_err-member-clause-none
returns-in_err-member-clause-none c =
    rw c.from_residual.ensures (any-at (IsRefusedUnder c.args.row.now) c.member_place.result c.args.columns.now _
    (rw c.member_place.ensures.value (member-within c.args.version c.args.columns.now c.requires.contents)) c.in_err-member.ensures.read)

pub returns-in_err-member-clause-values : goal.returns-in_err-member-clause-values
returns-in_err-member-clause-values c = rw c.from_residual.ensures tt

pub returns-in_err-member-clause-kept : goal.returns-in_err-member-clause-kept
returns-in_err-member-clause-kept c = rw c.from_residual.ensures tt

pub returns-in_err-family-clause-none : goal.returns-in_err-family-clause-none
returns-in_err-family-clause-none c = rw c.from_residual-in_err-family.ensures c.in_err-family.ensures.none

pub returns-in_err-family-clause-values : goal.returns-in_err-family-clause-values
returns-in_err-family-clause-values c = rw c.from_residual-in_err-family.ensures tt

pub returns-in_err-family-clause-kept : goal.returns-in_err-family-clause-kept
returns-in_err-family-clause-kept c = rw c.from_residual-in_err-family.ensures tt

pub returns-in_err-year-clause-none : goal.returns-in_err-year-clause-none
returns-in_err-year-clause-none c = rw c.from_residual-in_err-year.ensures c.in_err-year.ensures.none

pub returns-in_err-year-clause-values : goal.returns-in_err-year-clause-values
returns-in_err-year-clause-values c = rw c.from_residual-in_err-year.ensures tt

pub returns-in_err-year-clause-kept : goal.returns-in_err-year-clause-kept
returns-in_err-year-clause-kept c = rw c.from_residual-in_err-year.ensures tt

pub returns-in_err-balance-clause-none : goal.returns-in_err-balance-clause-none
returns-in_err-balance-clause-none c = rw c.from_residual-in_err-balance.ensures c.in_err-balance.ensures.none

pub returns-in_err-balance-clause-values : goal.returns-in_err-balance-clause-values
returns-in_err-balance-clause-values c = rw c.from_residual-in_err-balance.ensures tt

pub returns-in_err-balance-clause-kept : goal.returns-in_err-balance-clause-kept
returns-in_err-balance-clause-kept c = rw c.from_residual-in_err-balance.ensures tt

pub returns-clause-values : goal.returns-clause-values
returns-clause-values c =
    let row = c.args.row.now in
    let columns = c.args.columns.now in
    let member = c.in_ok-member.member.now in
    let entry : Entry = (record { family = c.in_ok-family.family.now; member = member; year = c.in_ok-year.year }, c.in_ok-balance.balance) in
    let held = subst (λ (n : ℕ). HoldsAt row columns n (Text member)) c.member_place.ensures.value (held-at row columns c.member_place.result _ (Text member) c.in_ok-member.ensures.read) in
    entry-held row c.args.version columns entry c.requires.contents c.in_ok-family.ensures.family held c.in_ok-year.ensures.year c.in_ok-balance.ensures.balance

pub returns-clause-kept : goal.returns-clause-kept
returns-clause-kept c =
    entry-kept c.args.row.now c.args.version c.args.columns.now (record { family = c.in_ok-family.family.now; member = c.in_ok-member.member.now; year = c.in_ok-year.year })
    c.in_ok-family.ensures.family c.in_ok-year.ensures.year
