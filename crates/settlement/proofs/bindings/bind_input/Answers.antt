use Rattle.feel_tests.specs.declared.value.Value.TheVariants.{Text, Number, Day}
use Rattle.settlement.specs.Bindings.{values_given}
use Rattle.settlement.proofs.Binding.{takes_given, kinds_stay, value_located, value_stays}
use Rattle.settlement.proofs.bindings.bind_input.Goals as goal

pub set_text-requires : goal.set_text-requires
set_text-requires c =
    takes_given c.args.inputs.now (values_given c.args.claim.now c.args.acc.now) c.args.place (Text c.in-Text.text.now) c.requires.kinds c.in-Text.ensures

pub returns-in_ok-set_text-in-Text-clause-given : goal.returns-in_ok-set_text-in-Text-clause-given
returns-in_ok-set_text-in-Text-clause-given c =
    value_located c.args.inputs.now c.set_text.new.self (values_given c.args.claim.now c.args.acc.now) c.args.place (Text c.in-Text.text.now) c.requires.kinds c.in-Text.ensures
    c.in_ok-set_text-in-Text.ensures.set

pub returns-in_ok-set_text-in-Text-clause-others : goal.returns-in_ok-set_text-in-Text-clause-others
returns-in_ok-set_text-in-Text-clause-others c =
    value_stays c.args.inputs.now c.set_text.new.self (values_given c.args.claim.now c.args.acc.now) c.args.place (Text c.in-Text.text.now) c.requires.kinds c.in-Text.ensures
    c.in_ok-set_text-in-Text.ensures.set

pub set_copy-requires : goal.set_copy-requires
set_copy-requires c = takes_given c.args.inputs.now (values_given c.args.claim.now c.args.acc.now) c.args.place c.in-Field.value.now c.requires.kinds c.in-Field.ensures

pub returns-in_ok-set_copy-in-Field-clause-given : goal.returns-in_ok-set_copy-in-Field-clause-given
returns-in_ok-set_copy-in-Field-clause-given c =
    value_located c.args.inputs.now c.set_copy.new.self (values_given c.args.claim.now c.args.acc.now) c.args.place c.in-Field.value.now c.requires.kinds c.in-Field.ensures
    c.in_ok-set_copy-in-Field.ensures.set

pub returns-in_ok-set_copy-in-Field-clause-others : goal.returns-in_ok-set_copy-in-Field-clause-others
returns-in_ok-set_copy-in-Field-clause-others c =
    value_stays c.args.inputs.now c.set_copy.new.self (values_given c.args.claim.now c.args.acc.now) c.args.place c.in-Field.value.now c.requires.kinds c.in-Field.ensures
    c.in_ok-set_copy-in-Field.ensures.set

pub set_number-requires : goal.set_number-requires
set_number-requires c = takes_given c.args.inputs.now (values_given c.args.claim.now c.args.acc.now) c.args.place (Number c.in-Amount.number) c.requires.kinds c.in-Amount.ensures

pub returns-in-Amount-clause-kinds : goal.returns-in-Amount-clause-kinds
returns-in-Amount-clause-kinds c =
    kinds_stay c.args.inputs.now c.set_number.new.self (values_given c.args.claim.now c.args.acc.now) c.args.place (Number c.in-Amount.number) c.requires.kinds c.in-Amount.ensures
    c.set_number.ensures

pub returns-in-Amount-clause-given : goal.returns-in-Amount-clause-given
returns-in-Amount-clause-given c =
    value_located c.args.inputs.now c.set_number.new.self (values_given c.args.claim.now c.args.acc.now) c.args.place (Number c.in-Amount.number) c.requires.kinds c.in-Amount.ensures
    c.set_number.ensures

pub returns-in-Amount-clause-others : goal.returns-in-Amount-clause-others
returns-in-Amount-clause-others c =
    value_stays c.args.inputs.now c.set_number.new.self (values_given c.args.claim.now c.args.acc.now) c.args.place (Number c.in-Amount.number) c.requires.kinds c.in-Amount.ensures
    c.set_number.ensures

pub set-requires : goal.set-requires
set-requires c = takes_given c.args.inputs.now (values_given c.args.claim.now c.args.acc.now) c.args.place (Day c.in-Day.day) c.requires.kinds c.in-Day.ensures

pub returns-in-Day-clause-kinds : goal.returns-in-Day-clause-kinds
returns-in-Day-clause-kinds c =
    kinds_stay c.args.inputs.now c.set.new.self (values_given c.args.claim.now c.args.acc.now) c.args.place (Day c.in-Day.day) c.requires.kinds c.in-Day.ensures c.set.ensures

pub returns-in-Day-clause-given : goal.returns-in-Day-clause-given
returns-in-Day-clause-given c =
    value_located c.args.inputs.now c.set.new.self (values_given c.args.claim.now c.args.acc.now) c.args.place (Day c.in-Day.day) c.requires.kinds c.in-Day.ensures c.set.ensures

pub returns-in-Day-clause-others : goal.returns-in-Day-clause-others
returns-in-Day-clause-others c =
    value_stays c.args.inputs.now c.set.new.self (values_given c.args.claim.now c.args.acc.now) c.args.place (Day c.in-Day.day) c.requires.kinds c.in-Day.ensures c.set.ensures
