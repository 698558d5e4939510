use Rattle.std.proofs.Common.{◌≡◌, ◌++◌, ◌∷◌, [], length, map, ap, sym, ◌∙◌, arith}
use Rattle.std.specs.List.{range_with_len}
use Rattle.plan_zones.specs.Zones.{regions_at}
use Rattle.plan_zones.proofs.Lists.{range_mapped}
use Rattle.plan_zones.proofs.zone_regions.plan_regions.Goals as goal

pub loop-name-preserved : goal.loop-name-preserved
loop-name-preserved c =
    let f = regions_at c.args.plan.now in
    let n = c.loop-name.name in
    c.in_ok-push.ensures.ok ∙ ap (λ rs. c.loop-name.regions ++ rs ∷ []) c.in_ok-regions_at.ensures ∙ ap (λ front. front ++ f n ∷ []) c.loop-name.invariant ∙ sym (range_mapped f n)

pub returns-clause-regions : goal.returns-clause-regions
returns-clause-regions c =
    let last = c.loop-name-test.false in
    let within = c.loop-name.auto.name-end in
    let end : c.loop-name.name ≡ length c.names-name-end.result.now = omega (arith, last, within) in
    c.loop-name.invariant ∙ ap (λ n. map (regions_at c.args.plan.now) (range_with_len 0 n)) (end ∙ ap length c.names-name-end.ensures.names)
