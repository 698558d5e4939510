use Rattle.std.proofs.Common.{◌≡◌, ◌++◌, ◌∷◌, [], rules}
use Rattle.plan_commands.proofs.Unions.{set_added}
use Rattle.plan_commands.proofs.zone_sets.push_set.Goals as goal

pub returns : goal.returns
returns c =
    let same : c.in_ok-own.own.sides ≡ c.args.set.now.sides = search rules in
    let is : c.push.new.self.items ≡ c.args.sets.now.items ++ c.in_ok-own.own ∷ [] = search rules in
    set_added c.args.sets.now.items c.push.new.self.items c.args.set.now c.in_ok-own.own same is
