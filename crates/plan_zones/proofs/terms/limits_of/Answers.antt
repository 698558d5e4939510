use Rattle.std.proofs.Common.{[], refl}
use Rattle.std.proofs.lemmas.Result.{err_from_is_err_and}
use Rattle.fixpoint.specs.Money.{is_money}
use Rattle.faults.specs.declared.role.Role.TheVariants.{FamilyDeductible, FamilyOopMax}
use Rattle.settlement.specs.Roles.{units_where, value_of}
use Rattle.settlement.proofs.Units.{units_lacking, units_there}
use Rattle.plan_zones.proofs.terms.limits_of.Goals as goal

pub returns-in_err-deductible : goal.returns-in_err-deductible
returns-in_err-deductible c =
    let p = err_from_is_err_and c.from_residual.result c.from_residual.ensures.1 in
    let lacks = units_lacking (units_where is_money (value_of [] c.args.env.now c.in-Some.roles.deductible)) FamilyDeductible c.in_err-deductible.field-0.0 c.in_err-deductible.ensures in
    rw (p.1, p.2, c.in-Some.is, lacks.0, lacks.1) refl

pub returns-in_err-oop_max : goal.returns-in_err-oop_max
returns-in_err-oop_max c =
    let p = err_from_is_err_and c.from_residual-in_err-oop_max.result c.from_residual-in_err-oop_max.ensures.1 in
    let deductible = units_there (units_where is_money (value_of [] c.args.env.now c.in-Some.roles.deductible)) FamilyDeductible c.in_ok-deductible.deductible c.in_ok-deductible.ensures in
    let lacks = units_lacking (units_where is_money (value_of [] c.args.env.now c.in-Some.roles.oop_max)) FamilyOopMax c.in_err-oop_max.field-0.0 c.in_err-oop_max.ensures in
    rw (p.1, p.2, c.in-Some.is, deductible, lacks.0, lacks.1) refl

pub returns : goal.returns
returns c =
    let deductible = units_there (units_where is_money (value_of [] c.args.env.now c.in-Some.roles.deductible)) FamilyDeductible c.in_ok-deductible.deductible c.in_ok-deductible.ensures in
    let oop_max = units_there (units_where is_money (value_of [] c.args.env.now c.in-Some.roles.oop_max)) FamilyOopMax c.in_ok-oop_max.oop_max c.in_ok-oop_max.ensures in
    rw (c.in-Some.is, deductible, oop_max) refl
