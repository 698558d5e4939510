use Rattle.std.proofs.Common.{◌≡◌, ◌∷◌, rules}
use Rattle.plan_commands.specs.ZoneSets.{IsUnion}
use Rattle.plan_commands.proofs.Unions.{first_joined_by}
use Rattle.plan_commands.proofs.zone_sets.+both_of.Goals as goal

pub returns-in_ok-both-in-Some-Some : goal.returns-in_ok-both-in-Some-Some
returns-in_ok-both-in-Some-Some t c =
    let arm = c.in-Some-Some in
    let one_is : c.args.one.now ≡ arm.first.now ∷ arm.more.now = search rules in
    let other_is : c.args.other.now ≡ arm.second.now ∷ arm.others.now = search rules in
    let same : arm.more.now ≡ arm.others.now = search rules in
    let both_is : c.in_ok-both-in-Some-Some.both ≡ c.in_ok-side-in-Some-Some.side ∷ arm.more.now = search rules in
    let union : IsUnion arm.first.now arm.second.now c.in_ok-side-in-Some-Some.side =
    rw (c.as_slice-then-are_same_sides.ensures, c.as_slice-then-are_same_sides-2.ensures) at c.in_ok-side-in-Some-Some.ensures in
    first_joined_by _ _ _ _ _ _ _ _ one_is other_is same both_is union
