use Rattle.std.proofs.Common.{◌≡◌, ap, arith, pos, ◌∙◌, w8, w16, w32, FitsSigned}
use Rattle.std.proofs.lemmas.Int.{ints, to_z_pos, to_z-of_z}
use Rattle.std.proofs.lemmas.Bool.{false≢true}
use mir.Val.{to_z}
use Rattle.jiff_core.specs.Date.{epoch_day}
use Rattle.feel_tests.proofs.OneDate.{no_civil, no_ymd, date_found, found_day, found_none, lost_day}
use Rattle.feel_tests.proofs.dates.day_of.Goals as goal

pub returns-in-Ok-clause-some : goal.returns-in-Ok-clause-some
returns-in-Ok-clause-some c =
    let read = c.in_ok-year.ensures.some in
    let date = c.in-Ok.date in
    let years : date.year ≡ pos c.in_ok-year.year = c.in-Ok.ensures.value.0 ∙ to_z_pos w16 c.in_ok-year.year (omega (arith, read.1.1)) in
    let months : pos date.month ≡ pos c.in_ok-year.month = c.in-Ok.ensures.value.1 ∙ to_z_pos w8 c.in_ok-year.month (omega (arith, read.2)) in
    let places : pos date.day ≡ pos c.in_ok-year.place = c.in-Ok.ensures.value.2 ∙ to_z_pos w8 c.in_ok-year.place (omega (arith, read.3)) in
    let number = c.to_unix_epoch_day.ensures.value ∙ ap epoch_day c.to_plain.ensures in
    let bound = c.to_unix_epoch_day.ensures.bound in
    let fits : FitsSigned w32 c.to_unix_epoch_day.result = omega (arith, ints) in
    let found = simp to_z-of_z at c.from_epoch_day.ensures in
    found_day c.args.text.now c.from_epoch_day.result c.to_unix_epoch_day.result found
    (date_found c.args.text.now c.in_ok-year.year c.in_ok-year.month c.in_ok-year.place date.year date.month date.day c.to_unix_epoch_day.result read.0 read.1 years months places (date.year_in, date.month_in, date.day_in) number)

pub returns-in-Ok-clause-none : goal.returns-in-Ok-clause-none
returns-in-Ok-clause-none c =
    let read = c.in_ok-year.ensures.some in
    let date = c.in-Ok.date in
    let years : date.year ≡ pos c.in_ok-year.year = c.in-Ok.ensures.value.0 ∙ to_z_pos w16 c.in_ok-year.year (omega (arith, read.1.1)) in
    let months : pos date.month ≡ pos c.in_ok-year.month = c.in-Ok.ensures.value.1 ∙ to_z_pos w8 c.in_ok-year.month (omega (arith, read.2)) in
    let places : pos date.day ≡ pos c.in_ok-year.place = c.in-Ok.ensures.value.2 ∙ to_z_pos w8 c.in_ok-year.place (omega (arith, read.3)) in
    let number = c.to_unix_epoch_day.ensures.value ∙ ap epoch_day c.to_plain.ensures in
    let bound = c.to_unix_epoch_day.ensures.bound in
    let fits : FitsSigned w32 c.to_unix_epoch_day.result = omega (arith, ints) in
    let found = simp to_z-of_z at c.from_epoch_day.ensures in
    found_none c.args.text.now c.from_epoch_day.result c.to_unix_epoch_day.result found
    (λ none. lost_day c.args.text.now c.in_ok-year.year c.in_ok-year.month c.in_ok-year.place date.year date.month date.day c.to_unix_epoch_day.result read.0 years months places number none)

pub returns-in-Err-clause-none : goal.returns-in-Err-clause-none
returns-in-Err-clause-none c =
    let read = c.in_ok-year.ensures.some in
    no_civil c.args.text.now c.in_ok-year.year c.in_ok-year.month c.in_ok-year.place (to_z w16 c.in_ok-year.year) (to_z w8 c.in_ok-year.month) (to_z w8 c.in_ok-year.place) read.0
    (to_z_pos w16 c.in_ok-year.year (omega (arith, read.1.1))) (to_z_pos w8 c.in_ok-year.month (omega (arith, read.2))) (to_z_pos w8 c.in_ok-year.place (omega (arith, read.3)))
    (λ date. false≢true (c.in-Err.ensures.succeeds.1 date))

pub returns-in_err-year-clause-none : goal.returns-in_err-year-clause-none
returns-in_err-year-clause-none c = rw c.from_residual.ensures (no_ymd c.args.text.now c.in_err-year.ensures.none)

pub returns-in_err-year-clause-some : goal.returns-in_err-year-clause-some
returns-in_err-year-clause-some c = rw c.from_residual.ensures tt
