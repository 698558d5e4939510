use Rattle.std.proofs.Common.{◌<◌, ◌≤◌, length, get_or, ap, refl, subst, sym, ◌∙◌, arith}
use Rattle.std.proofs.lemmas.Grind.{common_steps}
use Rattle.settlement.specs.Bindings.{values_given}
use Rattle.settlement.proofs.AllBound.{kinds_given}
use Rattle.explanation.proofs.Binding.{all_filled, filled_none, more_filled, takes_next}
use Rattle.explanation.proofs.given.inputs_of.Goals as goal

pub loop-place-init : goal.loop-place-init
loop-place-init c =
    let plan = c.args.plan.now in
    let given = values_given c.args.claim.now c.args.acc.now in
    c.in_ok-inputs.ensures ∙ sym (filled_none plan.names given (kinds_given plan c.args.claim.now c.args.acc.now c.requires))

pub set-requires : goal.set-requires
set-requires c =
    let plan = c.args.plan.now in
    let given = values_given c.args.claim.now c.args.acc.now in
    let n = c.loop-place.place in
    let v = c.value-item.result in
    let listed = c.as_slice-value-items.ensures ∙ c.in_ok-values.ensures in
    let kinds = kinds_given plan c.args.claim.now c.args.acc.now c.requires in
    let below = subst (λ vs. n < length vs) listed c.loop-place-test.true in
    let present = c.value-item.is ∙ ap (λ vs. get_or vs n v) listed in
    takes_next plan.names given n c.loop-place.inputs v _ c.loop-place.invariant kinds below present c.in_ok-duplicate.ensures

pub loop-place-preserved : goal.loop-place-preserved
loop-place-preserved c =
    let plan = c.args.plan.now in
    let given = values_given c.args.claim.now c.args.acc.now in
    let n = c.loop-place.place in
    let v = c.value-item.result in
    let listed = c.as_slice-value-items.ensures ∙ c.in_ok-values.ensures in
    let kinds = kinds_given plan c.args.claim.now c.args.acc.now c.requires in
    let below = subst (λ vs. n < length vs) listed c.loop-place-test.true in
    let present = c.value-item.is ∙ ap (λ vs. get_or vs n v) listed in
    more_filled plan.names given n c.loop-place.inputs c.set.new.self v _ c.loop-place.invariant kinds below present c.in_ok-duplicate.ensures c.set.ensures

pub returns : goal.returns
returns c =
    let plan = c.args.plan.now in
    let given = values_given c.args.claim.now c.args.acc.now in
    let listed = c.as_slice-value-items.ensures ∙ c.in_ok-values.ensures in
    let kinds = kinds_given plan c.args.claim.now c.args.acc.now c.requires in
    let size = ap length listed in
    let past : length given ≤ c.loop-place.place = omega (arith, size, c.loop-place-test.false) in
    all_filled plan.names given given c.loop-place.place c.loop-place.inputs c.loop-place.invariant kinds past refl

pub bounds-value-items-place : goal.bounds-value-items-place
bounds-value-items-place c = grind (arith, common_steps)
