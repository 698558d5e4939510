use Rattle.std.proofs.Common.{◌≡◌, ◌<◌, ◌≤◌, true, false, length, filter, take, ◌++◌, [], ◌∷◌, ap, sym, ◌∙◌, arith}
use Rattle.std.specs.List.{range_with_len}
use Rattle.std.proofs.lemmas.List.{take_all, append-nil}
use Rattle.std.proofs.lemmas.List.FromFn.{length-range_with_len}
use Rattle.settlement.specs.Reads.{is_read}
use Rattle.settlement.proofs.Binding.{one_more}
use Rattle.settlement.proofs.bindings.places_read.Goals as goal
use Rattle.settlement.proofs.bindings.places_read.Goals.{then-is_read+in_ok-push, else-is_read}

pub loop-place-preserved : goal.loop-place-preserved
loop-place-preserved c =
    let plan = c.args.plan.now in
    let place = c.loop-place.place in
    let names = length plan.names in
    let below : place < names = omega (arith, c.loop-place-test.true, ap length c.names-place-end.ensures.names) in
    elim c.if-is_read.branch [
      | then-is_read+in_ok-push w ↦
          let passes : is_read plan place ≡ true = sym c.is_read.ensures ∙ w.if-is_read.true in
          w.places-is ∙ w.in_ok-push.ensures.ok ∙ ap (λ places. places ++ place ∷ []) c.loop-place.invariant ∙ sym (one_more (is_read plan) names place true below passes)
      | else-is_read w ↦
          let passes : is_read plan place ≡ false = sym c.is_read.ensures ∙ w.if-is_read.false in
          w.places-is ∙ c.loop-place.invariant ∙ sym (one_more (is_read plan) names place false below passes ∙ append-nil (filter (is_read plan) (take place (range_with_len 0 names))))
    ]

pub returns-clause-places : goal.returns-clause-places
returns-clause-places c =
    let plan = c.args.plan.now in
    let place = c.loop-place.place in
    let names = length plan.names in
    let numbers = range_with_len 0 names in
    let end : length numbers ≤ place = omega (arith, c.loop-place-test.false, ap length c.names-place-end.ensures.names, length-range_with_len 0 names) in
    c.loop-place.invariant ∙ ap (filter (is_read plan)) (take_all place numbers end)
