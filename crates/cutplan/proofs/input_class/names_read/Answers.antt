use Rattle.std.proofs.Common.{◌≡◌, length, filter, ap, sym, ◌∙◌, arith}
use Rattle.std.specs.List.{range_with_len}
use Rattle.tables.specs.Inputs.{needs}
use Rattle.cutplan.proofs.ClassNumbers.{none_kept, one_kept}
use Rattle.cutplan.proofs.input_class.names_read.Goals as goal
use Rattle.cutplan.proofs.input_class.names_read.Goals.{then-needs+in_ok-push, else-needs}

pub loop-place-preserved : goal.loop-place-preserved
loop-place-preserved c =
    let needed = needs c.args.plan.now.tables in
    elim c.if-needs.branch [
      | then-needs+in_ok-push w ↦ w.places-is ∙ one_kept needed c.loop-place.place c.loop-place.places _ c.loop-place.invariant (sym c.needs.ensures ∙ w.if-needs.true) w.in_ok-push.ensures.ok
      | else-needs w ↦ w.places-is ∙ none_kept needed c.loop-place.place c.loop-place.places c.loop-place.invariant (sym c.needs.ensures ∙ w.if-needs.false)
    ]

pub returns : goal.returns
returns c =
    let names = c.names-place-end.result.now in
    let last = c.loop-place-test.false in
    let within = c.loop-place.auto.place-end in
    let end : c.loop-place.place ≡ length names = omega (arith, last, within) in
    c.loop-place.invariant ∙ ap (λ n. filter (needs c.args.plan.now.tables) (range_with_len 0 n)) (end ∙ ap length c.names-place-end.ensures.names)
