use Rattle.dtable.proofs.Exits.{passed_on}
use Rattle.dtable.specs.RoleFile.{AreRoles}
use Rattle.dtable.specs.Scope.{seen_of}
use Rattle.toml.specs.View.{view}
use Rattle.std.proofs.Common.{map}
use Rattle.dtable.proofs.reading.roles.read_role_table.Goals as goal

pub returns-in_err-benefits : goal.returns-in_err-benefits
returns-in_err-benefits c =
    passed_on (AreRoles c.args.families c.args.names.now (map seen_of c.args.tables.now) (view c.args.roles.now)) c.from_residual.result _ c.from_residual.ensures.1
    (λ memory r h. c.in_err-benefits.ensures memory (record { cover = r.cover; fee = r.fee; deductible = r.deductible }) (record { cover = h.cover; fee = h.fee; deductible = h.deductible }))

pub returns-in_err-shares : goal.returns-in_err-shares
returns-in_err-shares c =
    passed_on (AreRoles c.args.families c.args.names.now (map seen_of c.args.tables.now) (view c.args.roles.now)) c.from_residual-in_err-shares.result _ c.from_residual-in_err-shares.ensures.1
    (λ memory r h. c.in_err-shares.ensures memory (record { copay = r.copay; rate = r.rate; oop_max = r.oop_max }) (record { copay = h.copay; rate = h.rate; oop_max = h.oop_max }))

pub returns-in_err-remarks : goal.returns-in_err-remarks
returns-in_err-remarks c =
    passed_on (AreRoles c.args.families c.args.names.now (map seen_of c.args.tables.now) (view c.args.roles.now)) c.from_residual-in_err-remarks.result _ c.from_residual-in_err-remarks.ensures.1
    (λ memory r h. c.in_err-remarks.ensures memory r.remarks h.remarks)

pub returns-in_err-family : goal.returns-in_err-family
returns-in_err-family c =
    passed_on (AreRoles c.args.families c.args.names.now (map seen_of c.args.tables.now) (view c.args.roles.now)) c.from_residual-in_err-family.result _ c.from_residual-in_err-family.ensures.1
    (λ memory r h. c.in_err-family.ensures memory r.family h.family)

pub returns : goal.returns
returns c = record {
  cover = c.in_ok-benefits.ensures.cover;
  fee = c.in_ok-benefits.ensures.fee;
  deductible = c.in_ok-benefits.ensures.deductible;
  copay = c.in_ok-shares.ensures.copay;
  rate = c.in_ok-shares.ensures.rate;
  oop_max = c.in_ok-shares.ensures.oop_max;
  remarks = c.in_ok-remarks.ensures;
  family = c.in_ok-family.ensures;
}
