use Rattle.std.proofs.Common.{◌+◌, ℕ, arith, subst}
use Rattle.feel_tests.specs.declared.value.Value.TheVariants.{Number}
use Rattle.intake_csv.specs.Balances.{HoldsBalance}
use Rattle.intake_csv.specs.Validated.{IsRefusedUnder}
use Rattle.intake_csv.proofs.EntryColumns.{amount-content, amount-within, held-at}
use Rattle.intake_csv.proofs.Lists.{any-at}
use Rattle.intake_csv.proofs.entry.balance_of_columns.Goals as goal

pub bounds-columns-place : goal.bounds-columns-place
bounds-columns-place c = amount-within c.args.version c.args.columns.now c.requires.contents 0 c.met_place-place.result (omega arith) (omega (arith, c.met_place-place.ensures.value))

pub money_of_column-requires-clause-within : goal.money_of_column-requires-clause-within
money_of_column-requires-clause-within c = c.requires.within c.met_place-place.result _ (amount-within c.args.version c.args.columns.now c.requires.contents 0 c.met_place-place.result (omega arith) (omega (arith, c.met_place-place.ensures.value)))

pub money_of_column-requires-clause-content : goal.money_of_column-requires-clause-content
money_of_column-requires-clause-content c = amount-content c.args.version c.args.columns.now c.requires.contents 0 c.met_place-place.result _ (omega arith) (omega (arith, c.met_place-place.ensures.value))

pub returns-in_err-met-clause-balance : goal.returns-in_err-met-clause-balance
returns-in_err-met-clause-balance c = rw c.from_residual.ensures tt

pub returns-in_err-met-clause-none : goal.returns-in_err-met-clause-none
returns-in_err-met-clause-none c =
    rw c.from_residual.ensures (any-at (IsRefusedUnder c.args.row.now) c.met_place-place.result c.args.columns.now _ (amount-within c.args.version c.args.columns.now c.requires.contents 0 c.met_place-place.result (omega arith) (omega (arith, c.met_place-place.ensures.value)))
    c.in_err-met.ensures)

pub bounds-columns-place-2 : goal.bounds-columns-place-2
bounds-columns-place-2 c = amount-within c.args.version c.args.columns.now c.requires.contents 1 (c.met_place-place.result + 1) (omega arith) (omega (arith, c.met_place-place.ensures.value))

pub money_of_column-requires-2-clause-within : goal.money_of_column-requires-2-clause-within
money_of_column-requires-2-clause-within c = c.requires.within (c.met_place-place.result + 1) _ (amount-within c.args.version c.args.columns.now c.requires.contents 1 (c.met_place-place.result + 1) (omega arith) (omega (arith, c.met_place-place.ensures.value)))

pub money_of_column-requires-2-clause-content : goal.money_of_column-requires-2-clause-content
money_of_column-requires-2-clause-content c = amount-content c.args.version c.args.columns.now c.requires.contents 1 (c.met_place-place.result + 1) _ (omega arith) (omega (arith, c.met_place-place.ensures.value))

pub returns-in_err-oop-clause-balance : goal.returns-in_err-oop-clause-balance
returns-in_err-oop-clause-balance c = rw c.from_residual-in_err-oop.ensures tt

pub returns-in_err-oop-clause-none : goal.returns-in_err-oop-clause-none
returns-in_err-oop-clause-none c =
    rw c.from_residual-in_err-oop.ensures (any-at (IsRefusedUnder c.args.row.now) (c.met_place-place.result + 1) c.args.columns.now _ (amount-within c.args.version c.args.columns.now c.requires.contents 1 (c.met_place-place.result + 1) (omega arith) (omega (arith, c.met_place-place.ensures.value)))
    c.in_err-oop.ensures)

pub bounds-columns-place-3 : goal.bounds-columns-place-3
bounds-columns-place-3 c = amount-within c.args.version c.args.columns.now c.requires.contents 2 (c.met_place-place.result + 2) (omega arith) (omega (arith, c.met_place-place.ensures.value))

pub money_of_column-requires-3-clause-within : goal.money_of_column-requires-3-clause-within
money_of_column-requires-3-clause-within c = c.requires.within (c.met_place-place.result + 2) _ (amount-within c.args.version c.args.columns.now c.requires.contents 2 (c.met_place-place.result + 2) (omega arith) (omega (arith, c.met_place-place.ensures.value)))

pub money_of_column-requires-3-clause-content : goal.money_of_column-requires-3-clause-content
money_of_column-requires-3-clause-content c = amount-content c.args.version c.args.columns.now c.requires.contents 2 (c.met_place-place.result + 2) _ (omega arith) (omega (arith, c.met_place-place.ensures.value))

pub returns-in_err-paid-clause-balance : goal.returns-in_err-paid-clause-balance
returns-in_err-paid-clause-balance c = rw c.from_residual-in_err-paid.ensures tt

pub returns-in_err-paid-clause-none : goal.returns-in_err-paid-clause-none
returns-in_err-paid-clause-none c =
    rw c.from_residual-in_err-paid.ensures (any-at (IsRefusedUnder c.args.row.now) (c.met_place-place.result + 2) c.args.columns.now _ (amount-within c.args.version c.args.columns.now c.requires.contents 2 (c.met_place-place.result + 2) (omega arith) (omega (arith, c.met_place-place.ensures.value)))
    c.in_err-paid.ensures)

pub returns-clause-balance : goal.returns-clause-balance
returns-clause-balance c =
    let row = c.args.row.now in
    let columns = c.args.columns.now in
    let place = c.met_place-place.result in
    let met = held-at row columns place _ (Number c.in_ok-met.met) c.in_ok-met.ensures in
    let oop = held-at row columns (place + 1) _ (Number c.in_ok-oop.oop) c.in_ok-oop.ensures in
    let paid = held-at row columns (place + 2) _ (Number c.in_ok-paid.paid) c.in_ok-paid.ensures in
    subst (λ (n : ℕ). HoldsBalance row columns n (record { met = c.in_ok-met.met; oop = c.in_ok-oop.oop; paid = c.in_ok-paid.paid })) c.met_place-place.ensures.value (met, oop, paid)
