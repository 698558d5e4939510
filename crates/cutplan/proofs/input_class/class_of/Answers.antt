use Rattle.std.proofs.Common.{◌+◌, ◌*◌, length, ap, ◌∙◌}
use Rattle.cutplan.proofs.ClassNumbers.{all_names, more_names, names_others, no_names}
use Rattle.cutplan.proofs.input_class.class_of.Goals as goal

pub loop-name-init : goal.loop-name-init
loop-name-init c = no_names c.args.plan.now c.args.given.now

pub place_in-requires : goal.place_in-requires
place_in-requires c = names_others c.args.plan.now c.args.names.now c.loop-name.name-index c.name-item.result c.requires c.loop-name-test.true c.name-item.is

pub loop-name-preserved : goal.loop-name-preserved
loop-name-preserved c =
    let place = c.in_ok-place.place in
    more_names c.args.plan.now c.args.given.now c.args.names.now c.loop-name.name-index c.loop-name.input_class place c.in_ok-input_class.input_class c.name-item.result c.requires c.loop-name-test.true c.name-item.is
    c.loop-name.invariant c.in_ok-place.ensures (c.in_ok-input_class.ensures ∙ ap (λ regions. c.loop-name.input_class * length regions + place) c.as_slice.ensures.value)

pub returns : goal.returns
returns c = all_names c.args.plan.now c.args.given.now c.args.names.now c.loop-name.name-index c.loop-name.input_class c.requires c.loop-name-test.false c.loop-name.invariant
