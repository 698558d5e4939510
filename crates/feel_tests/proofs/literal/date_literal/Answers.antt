use Rattle.std.proofs.Common.{◌≡◌, ◌∙◌, arith}
use Rattle.std.specs.Prelude.{string_bytes}
use Rattle.std.proofs.lemmas.Grind.{common_steps}
use Rattle.feel_tests.specs.Calendar.{day_text}
use Rattle.feel_tests.proofs.DayText.{date_text_is}
use Rattle.feel_tests.proofs.literal.date_literal.Goals as goal

pub returns : goal.returns
returns c =
    let text : string_bytes c.in_ok-text.text ≡ day_text c.args.day =
    c.in_ok-text.ensures.ok ∙ date_text_is c.date_of-date.result c.args.day c.date_of-date.ensures.date c.date_of-date.ensures.in_range in
    grind (arith, common_steps)
