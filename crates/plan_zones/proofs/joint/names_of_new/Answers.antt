use Rattle.std.proofs.Common.{◌≡◌, ◌++◌, ◌∷◌, [], length, map, Some, ap, sym, ◌∙◌, arith}
use Rattle.std.specs.List.{range_with_len}
use Rattle.plan_zones.specs.Joint.{name_of_new, place_renamed}
use Rattle.plan_zones.proofs.Lists.{range_mapped}
use Rattle.plan_zones.proofs.joint.names_of_new.Goals as goal

pub loop-place-preserved : goal.loop-place-preserved
loop-place-preserved c =
    let f = name_of_new c.args.old.now c.args.new.now c.args.renames.now in
    let n = c.loop-place.place in
    let found = c.place_renamed.ensures ∙ ap (place_renamed c.args.old.now c.args.renames.now) c.text_at.ensures in
    c.in_ok-push.ensures.ok ∙ ap (λ old. c.loop-place.names ++ record { old = old; new = Some n } ∷ []) found ∙ ap (λ front. front ++ f n ∷ []) c.loop-place.invariant ∙ sym (range_mapped f n)

pub returns : goal.returns
returns c =
    let last = c.loop-place-test.false in
    let within = c.loop-place.auto.place-end in
    let end : c.loop-place.place ≡ length c.args.new.now = omega (arith, last, within) in
    c.loop-place.invariant ∙ ap (λ n. map (name_of_new c.args.old.now c.args.new.now c.args.renames.now) (range_with_len 0 n)) end
