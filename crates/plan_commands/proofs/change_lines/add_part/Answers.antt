use Rattle.std.proofs.lemmas.Result.{on_ok_weaker}
use Rattle.plan_commands.proofs.Parts.{part_added}
use Rattle.plan_commands.proofs.change_lines.add_part.Goals as goal

pub returns : goal.returns
returns c =
    on_ok_weaker c.add_sets.result
    (λ added. part_added c.args.of_change.now c.args.boxes.now c.args.part c.in_ok-zones.zones.items c.in_ok-joined.joined.items c.args.lines.now.items c.add_sets.new.lines.items
    c.in_ok-zones.ensures c.in_ok-joined.ensures added)
    (rw c.as_slice.ensures.value at c.add_sets.ensures)
