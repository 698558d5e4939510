use Rattle.std.proofs.Common.{◌≡◌, ◌+◌, get_or, refl, rules, subst, sym, take, arith}
use Rattle.std.proofs.lemmas.Grind.{common_steps}
use Rattle.std.specs.List.{insert}
use Rattle.std.proofs.lemmas.List.{take_all}
use Rattle.plan_commands.specs.ZoneSets.{IsUnion}
use Rattle.plan_commands.proofs.Unions.{union_more}
use Rattle.plan_commands.proofs.zone_sets.union_of.Goals as goal

pub loop-region-preserved : goal.loop-region-preserved
loop-region-preserved c =
    let i = c.loop-region.region-index in
    let x = get_or c.args.other.now i 0 in
    let made : c.insert.new.self ≡ insert c.loop-region.both c.place_for-place.result x = search rules in
    let more = union_more c.args.one.now c.args.other.now c.loop-region.both i c.place_for-place.result x c.loop-region-test.true refl c.loop-region.invariant in
    subst (λ both. IsUnion c.args.one.now (take (i + 1) c.args.other.now) both) (sym made) more

pub returns : goal.returns
returns c = subst (λ items. IsUnion c.args.one.now items c.loop-region.both) (take_all c.loop-region.region-index c.args.other.now c.loop-region-test.false) c.loop-region.invariant

pub insert-requires : goal.insert-requires
insert-requires c = grind (arith, common_steps)

pub loop-region-init : goal.loop-region-init
loop-region-init c = grind (arith, common_steps)
