use Rattle.std.proofs.Common.{◌≡◌, ◌++◌, ◌∷◌, ◌∙◌, [], IsTrue, rules, arith}
use Rattle.std.proofs.lemmas.Grind.{common_steps}
use Rattle.plan_commands.proofs.Parts.{box_added}
use Rattle.plan_commands.proofs.change_lines.add_box.Goals as goal

pub returns : goal.returns
returns c =
    let is : IsTrue c.args.is_with = search rules in
    let made : c.push.new.self.items ≡ c.args.sets.now.items ++ c.in_ok-set.set ∷ [] = search rules in
    λ zone. box_added c.args.sets.now.items c.push.new.self.items c.args.own.now c.in_ok-set.set c.args.is_with zone is (c.in_ok-set.ensures ∙ c.as_slice.ensures) made

pub returns-then-not-is_with : goal.returns-then-not-is_with
returns-then-not-is_with c = grind (arith, common_steps)
