use Rattle.std.proofs.Common.{◌∙◌, ap, ap₂, sym, arith}
use Rattle.std.proofs.lemmas.Grind.{common_steps}
use Rattle.plan_zones.specs.Changes.{first_unknown_narrowing}
use Rattle.plan_zones.specs.Joint.{joint_names}
use Rattle.plan_zones.proofs.comparing.join_plans.Goals as goal

pub returns-in-Some-unknown-clause-refused : goal.returns-in-Some-unknown-clause-refused
returns-in-Some-unknown-clause-refused c = λ limit.
    let narrowed = c.args.comparing.now.narrowed.now in
    let old = c.names-old_names.ensures.names in
    let new = c.names-new_names.ensures.names in
    let names = c.as_slice-names.ensures ∙ c.in_ok-joint.ensures.names ∙ ap₂ (λ one other. joint_names one other c.args.comparing.now.renames.now) old new in
    sym
    (c.in-Some-unknown.ensures ∙ ap (λ found. first_unknown_narrowing c.names-old_names.result.now c.names-new_names.result.now found narrowed) names
    ∙ ap₂ (λ one other. first_unknown_narrowing one other (joint_names c.args.old.now.names c.args.new.now.names c.args.comparing.now.renames.now) narrowed) old new)

pub returns-in-Some-first_unknown_old-clause-refused : goal.returns-in-Some-first_unknown_old-clause-refused
returns-in-Some-first_unknown_old-clause-refused c = grind (arith, common_steps)

pub returns-clause-new : goal.returns-clause-new
returns-clause-new c = grind (arith, common_steps)

pub returns-clause-names : goal.returns-clause-names
returns-clause-names c = grind (arith, common_steps)

pub returns-clause-kinds : goal.returns-clause-kinds
returns-clause-kinds c = grind (arith, common_steps)

pub returns-in-Some-first_of_two_kinds-clause-refused : goal.returns-in-Some-first_of_two_kinds-clause-refused
returns-in-Some-first_of_two_kinds-clause-refused c = grind (arith, common_steps)

pub returns-in-Some-first_unknown_new-clause-refused : goal.returns-in-Some-first_unknown_new-clause-refused
returns-in-Some-first_unknown_new-clause-refused c = grind (arith, common_steps)

pub returns-in_err-joint-clause-refused : goal.returns-in_err-joint-clause-refused
returns-in_err-joint-clause-refused c = grind (arith, common_steps)

pub returns-clause-old : goal.returns-clause-old
returns-clause-old c = grind (arith, common_steps)

pub returns-clause-new_roles : goal.returns-clause-new_roles
returns-clause-new_roles c = grind (arith, common_steps)

pub returns-clause-old_roles : goal.returns-clause-old_roles
returns-clause-old_roles c = grind (arith, common_steps)

pub returns-in-Some-clause-refused : goal.returns-in-Some-clause-refused
returns-in-Some-clause-refused c = grind (arith, common_steps)
