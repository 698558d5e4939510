use Rattle.std.proofs.Common.{◌≡◌, ◌<◌, ◌≤◌, ◌∙◌, Some, ap, arith, length, slice_get, sym}
use Rattle.std.proofs.lemmas.Grind.{common_steps}
use Rattle.std.proofs.lemmas.Option.{slice_get-get_or, slice_get_past}
use Rattle.plan_commands.proofs.Parts.{no_part, part_by}
use Rattle.plan_commands.proofs.change_lines.has_part.Goals as goal

pub returns-in-Some : goal.returns-in-Some
returns-in-Some c =
    let parts = c.args.of_change.now in
    let own = c.in-Some.parts.now in
    let found = c.in-Some.ensures.lookup in
    let within : c.args.change < length parts = grind (arith, common_steps) in
    let at : slice_get parts c.args.change ≡ Some own = slice_get-get_or parts c.args.change own within ∙ ap (λ o. Some o) (sym found.1) in
    part_by parts c.args.change c.args.part own c.is_on.result at (rw c.as_slice.ensures at c.is_on.ensures)

pub returns-in-None : goal.returns-in-None
returns-in-None c =
    let parts = c.args.of_change.now in
    let past : length parts ≤ c.args.change = grind (arith, common_steps) in
    no_part parts c.args.change c.args.part (slice_get_past parts c.args.change past)
