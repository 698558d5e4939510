use Rattle.dtable.proofs.Exits.{passed_on}
use Rattle.dtable.specs.RoleFile.{AreBenefits}
use Rattle.dtable.specs.Scope.{seen_of}
use Rattle.toml.specs.View.{view}
use Rattle.std.proofs.Common.{map}
use Rattle.dtable.proofs.reading.roles.read_benefits.Goals as goal

pub returns-in_err-cover : goal.returns-in_err-cover
returns-in_err-cover c =
    passed_on (AreBenefits c.args.table.now.names.now (map seen_of c.args.table.now.tables.now) (view c.args.table.now.roles.now)) c.from_residual.result _ c.from_residual.ensures.1
    (λ memory read h. c.in_err-cover.ensures memory read.cover h.cover)

pub returns-in_err-fee : goal.returns-in_err-fee
returns-in_err-fee c =
    passed_on (AreBenefits c.args.table.now.names.now (map seen_of c.args.table.now.tables.now) (view c.args.table.now.roles.now)) c.from_residual-in_err-fee.result _ c.from_residual-in_err-fee.ensures.1
    (λ memory read h. c.in_err-fee.ensures memory read.fee h.fee)

pub returns-in_err-deductible : goal.returns-in_err-deductible
returns-in_err-deductible c =
    passed_on (AreBenefits c.args.table.now.names.now (map seen_of c.args.table.now.tables.now) (view c.args.table.now.roles.now)) c.from_residual-in_err-deductible.result _ c.from_residual-in_err-deductible.ensures.1
    (λ memory read h. c.in_err-deductible.ensures memory read.deductible h.deductible)
