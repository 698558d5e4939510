use Rattle.std.proofs.Common.{[], refl}
use Rattle.std.proofs.lemmas.Result.{err_from_is_err_and}
use Rattle.fixpoint.specs.Money.{is_money, is_rate}
use Rattle.faults.specs.declared.role.Role.TheVariants.{Fee, Deductible, Copay, Rate, OopMax}
use Rattle.settlement.specs.Roles.{units_where, value_of}
use Rattle.settlement.proofs.Units.{units_lacking, units_there}
use Rattle.plan_zones.proofs.terms.terms_of.Goals as goal

pub returns-in_err-fee : goal.returns-in_err-fee
returns-in_err-fee c =
    let p = err_from_is_err_and c.from_residual.result c.from_residual.ensures.1 in
    let lacks = units_lacking (units_where is_money (value_of [] c.args.env.now c.args.roles.now.fee)) Fee c.in_err-fee.field-0.0 c.in_err-fee.ensures in
    rw (p.1, p.2, lacks.0, lacks.1) refl

pub returns-in_err-deductible : goal.returns-in_err-deductible
returns-in_err-deductible c =
    let p = err_from_is_err_and c.from_residual-in_err-deductible.result c.from_residual-in_err-deductible.ensures.1 in
    let fee = units_there (units_where is_money (value_of [] c.args.env.now c.args.roles.now.fee)) Fee c.in_ok-fee.fee c.in_ok-fee.ensures in
    let lacks = units_lacking (units_where is_money (value_of [] c.args.env.now c.args.roles.now.deductible)) Deductible c.in_err-deductible.field-0.0 c.in_err-deductible.ensures in
    rw (p.1, p.2, fee, lacks.0, lacks.1) refl

pub returns-in_err-copay : goal.returns-in_err-copay
returns-in_err-copay c =
    let p = err_from_is_err_and c.from_residual-in_err-copay.result c.from_residual-in_err-copay.ensures.1 in
    let fee = units_there (units_where is_money (value_of [] c.args.env.now c.args.roles.now.fee)) Fee c.in_ok-fee.fee c.in_ok-fee.ensures in
    let deductible = units_there (units_where is_money (value_of [] c.args.env.now c.args.roles.now.deductible)) Deductible c.in_ok-deductible.deductible c.in_ok-deductible.ensures in
    let lacks = units_lacking (units_where is_money (value_of [] c.args.env.now c.args.roles.now.copay)) Copay c.in_err-copay.field-0.0 c.in_err-copay.ensures in
    rw (p.1, p.2, fee, deductible, lacks.0, lacks.1) refl

pub returns-in_err-rate : goal.returns-in_err-rate
returns-in_err-rate c =
    let p = err_from_is_err_and c.from_residual-in_err-rate.result c.from_residual-in_err-rate.ensures.1 in
    let fee = units_there (units_where is_money (value_of [] c.args.env.now c.args.roles.now.fee)) Fee c.in_ok-fee.fee c.in_ok-fee.ensures in
    let deductible = units_there (units_where is_money (value_of [] c.args.env.now c.args.roles.now.deductible)) Deductible c.in_ok-deductible.deductible c.in_ok-deductible.ensures in
    let copay = units_there (units_where is_money (value_of [] c.args.env.now c.args.roles.now.copay)) Copay c.in_ok-copay.copay c.in_ok-copay.ensures in
    let lacks = units_lacking (units_where is_rate (value_of [] c.args.env.now c.args.roles.now.rate)) Rate c.in_err-rate.field-0.0 c.in_err-rate.ensures in
    rw (p.1, p.2, fee, deductible, copay, lacks.0, lacks.1) refl

pub returns-in_err-oop_max : goal.returns-in_err-oop_max
returns-in_err-oop_max c =
    let p = err_from_is_err_and c.from_residual-in_err-oop_max.result c.from_residual-in_err-oop_max.ensures.1 in
    let fee = units_there (units_where is_money (value_of [] c.args.env.now c.args.roles.now.fee)) Fee c.in_ok-fee.fee c.in_ok-fee.ensures in
    let deductible = units_there (units_where is_money (value_of [] c.args.env.now c.args.roles.now.deductible)) Deductible c.in_ok-deductible.deductible c.in_ok-deductible.ensures in
    let copay = units_there (units_where is_money (value_of [] c.args.env.now c.args.roles.now.copay)) Copay c.in_ok-copay.copay c.in_ok-copay.ensures in
    let rate = units_there (units_where is_rate (value_of [] c.args.env.now c.args.roles.now.rate)) Rate c.in_ok-rate.rate c.in_ok-rate.ensures in
    let lacks = units_lacking (units_where is_money (value_of [] c.args.env.now c.args.roles.now.oop_max)) OopMax c.in_err-oop_max.field-0.0 c.in_err-oop_max.ensures in
    rw (p.1, p.2, fee, deductible, copay, rate, lacks.0, lacks.1) refl

pub returns-in_err-family : goal.returns-in_err-family
returns-in_err-family c =
    let p = err_from_is_err_and c.from_residual-in_err-family.result c.from_residual-in_err-family.ensures.1 in
    let fee = units_there (units_where is_money (value_of [] c.args.env.now c.args.roles.now.fee)) Fee c.in_ok-fee.fee c.in_ok-fee.ensures in
    let deductible = units_there (units_where is_money (value_of [] c.args.env.now c.args.roles.now.deductible)) Deductible c.in_ok-deductible.deductible c.in_ok-deductible.ensures in
    let copay = units_there (units_where is_money (value_of [] c.args.env.now c.args.roles.now.copay)) Copay c.in_ok-copay.copay c.in_ok-copay.ensures in
    let rate = units_there (units_where is_rate (value_of [] c.args.env.now c.args.roles.now.rate)) Rate c.in_ok-rate.rate c.in_ok-rate.ensures in
    let oop_max = units_there (units_where is_money (value_of [] c.args.env.now c.args.roles.now.oop_max)) OopMax c.in_ok-oop_max.oop_max c.in_ok-oop_max.ensures in
    rw (p.1, p.2, fee, deductible, copay, rate, oop_max, c.in_err-family.ensures) refl

pub returns : goal.returns
returns c =
    let fee = units_there (units_where is_money (value_of [] c.args.env.now c.args.roles.now.fee)) Fee c.in_ok-fee.fee c.in_ok-fee.ensures in
    let deductible = units_there (units_where is_money (value_of [] c.args.env.now c.args.roles.now.deductible)) Deductible c.in_ok-deductible.deductible c.in_ok-deductible.ensures in
    let copay = units_there (units_where is_money (value_of [] c.args.env.now c.args.roles.now.copay)) Copay c.in_ok-copay.copay c.in_ok-copay.ensures in
    let rate = units_there (units_where is_rate (value_of [] c.args.env.now c.args.roles.now.rate)) Rate c.in_ok-rate.rate c.in_ok-rate.ensures in
    let oop_max = units_there (units_where is_money (value_of [] c.args.env.now c.args.roles.now.oop_max)) OopMax c.in_ok-oop_max.oop_max c.in_ok-oop_max.ensures in
    rw (fee, deductible, copay, rate, oop_max, c.in_ok-family.ensures) refl
