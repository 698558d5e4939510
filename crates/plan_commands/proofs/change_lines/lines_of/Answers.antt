use Rattle.std.proofs.Common.{◌≡◌, arith, subst}
use Rattle.std.proofs.lemmas.Grind.{common_steps}
use Rattle.plan_commands.specs.ChangeLines.{AreLinesOf}
use Rattle.plan_commands.proofs.Parts.{lines_more}
use Rattle.plan_commands.proofs.change_lines.lines_of.Goals as goal

pub loop-part-preserved : goal.loop-part-preserved
loop-part-preserved c = lines_more c.args.of_change.now c.args.boxes.now c.loop-part.part c.loop-part.lines.items _ c.loop-part.invariant c.in_ok-add_part.ensures

pub returns : goal.returns
returns c =
    let last = c.loop-part-test.false in
    let within = c.loop-part.auto.part-end in
    let end : c.loop-part.part ≡ c.args.count = omega (arith, last, within) in
    subst (λ n. AreLinesOf c.args.of_change.now c.args.boxes.now n c.loop-part.lines.items) end c.loop-part.invariant

pub loop-part-init : goal.loop-part-init
loop-part-init c = grind (arith, common_steps)
