use Rattle.std.proofs.Common.{◌≡◌, ℤ, Some, ap, subst, ◌∙◌, rules, arith}
use Rattle.std.proofs.lemmas.Grind.{common_steps}
use Rattle.feel_tests.specs.Calendar.{year_of, year_text}
use Rattle.remit_records.proofs.record.year_at.Goals as goal

pub returns-in-Some : goal.returns-in-Some
returns-in-Some c = λ day located.
    let at = rw c.in-Some.is at c.in_ok-day.ensures.lacking day located in
    let same : c.in-Some.day ≡ day = cc at in
    let reported : c.epoch_day.result ≡ day = c.epoch_day.ensures.value ∙ same in
    let year : c.day_year.result ≡ year_of day = subst (λ (d : ℤ). c.day_year.result ≡ year_of d) reported (search rules) in
    ap Some (c.year_text.ensures ∙ ap year_text year)

pub returns-in-None : goal.returns-in-None
returns-in-None c = λ day located.
    let at = rw c.in-None.is at c.in_ok-day.ensures.lacking day located in
    absurd (cc at)

pub day_year-requires : goal.day_year-requires
day_year-requires c = grind (arith, common_steps)
