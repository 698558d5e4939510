use Rattle.std.proofs.Common.{arith}
use Rattle.std.proofs.lemmas.Grind.{common_steps}
use Rattle.feel_tests.proofs.OneDate.{ymd_read, ymd_year, ymd_month, ymd_place}
use Rattle.feel_tests.proofs.dates.ymd_of.Goals as goal

pub returns-clause-some : goal.returns-clause-some
returns-clause-some c =
    let year = c.in_ok-year.ensures.some in
    let month = c.in_ok-month.ensures.some in
    let place = c.in_ok-place.ensures.some in
    (ymd_read c.args.text.now c.in_ok-year.year c.in_ok-month.month c.in_ok-place.place (grind (arith, common_steps)) year c.if-dash-ne45.false month.1 month.2 c.if-hyphen-ne45.false place.1 place.2, year.year_in, month.0, place.0)

pub returns-in_err-place-clause-none : goal.returns-in_err-place-clause-none
returns-in_err-place-clause-none c =
    rw c.from_residual-in_err-place.ensures (λ year month place range m p e. c.in_err-place.ensures.none place p (ymd_place c.args.text.now year month place e))

pub returns-in_err-place-clause-some : goal.returns-in_err-place-clause-some
returns-in_err-place-clause-some c = rw c.from_residual-in_err-place.ensures tt

pub returns-in_err-month-clause-none : goal.returns-in_err-month-clause-none
returns-in_err-month-clause-none c =
    rw c.from_residual-in_err-month.ensures (λ year month place range m p e. c.in_err-month.ensures.none month m (ymd_month c.args.text.now year month place e))

pub returns-in_err-month-clause-some : goal.returns-in_err-month-clause-some
returns-in_err-month-clause-some c = rw c.from_residual-in_err-month.ensures tt

pub returns-in_err-year-clause-none : goal.returns-in_err-year-clause-none
returns-in_err-year-clause-none c =
    rw c.from_residual.ensures (λ year month place range m p e. c.in_err-year.ensures.none year (ymd_year c.args.text.now year month place range e))

pub returns-in_err-year-clause-some : goal.returns-in_err-year-clause-some
returns-in_err-year-clause-some c = rw c.from_residual.ensures tt

pub returns-then-dash-ne45-clause-none : goal.returns-then-dash-ne45-clause-none
returns-then-dash-ne45-clause-none c = grind (arith, common_steps)

pub returns-in_default-2-clause-none : goal.returns-in_default-2-clause-none
returns-in_default-2-clause-none c = grind (arith, common_steps)

pub returns-in_default-clause-none : goal.returns-in_default-clause-none
returns-in_default-clause-none c = grind (arith, common_steps)

pub bounds-text-9 : goal.bounds-text-9
bounds-text-9 c = grind (arith, common_steps)

pub bounds-text-8 : goal.bounds-text-8
bounds-text-8 c = grind (arith, common_steps)

pub bounds-text-7 : goal.bounds-text-7
bounds-text-7 c = grind (arith, common_steps)

pub bounds-text-6 : goal.bounds-text-6
bounds-text-6 c = grind (arith, common_steps)

pub bounds-text-5 : goal.bounds-text-5
bounds-text-5 c = grind (arith, common_steps)

pub bounds-text-4 : goal.bounds-text-4
bounds-text-4 c = grind (arith, common_steps)

pub bounds-text-3 : goal.bounds-text-3
bounds-text-3 c = grind (arith, common_steps)

pub bounds-text-2 : goal.bounds-text-2
bounds-text-2 c = grind (arith, common_steps)

pub bounds-text-1 : goal.bounds-text-1
bounds-text-1 c = grind (arith, common_steps)

pub bounds-text-0 : goal.bounds-text-0
bounds-text-0 c = grind (arith, common_steps)
