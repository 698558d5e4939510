use Rattle.dtable.proofs.Exits.{passed_on}
use Rattle.dtable.specs.RoleFile.{AreLimits}
use Rattle.dtable.specs.Scope.{seen_of}
use Rattle.toml.specs.View.{view}
use Rattle.std.proofs.Common.{map}
use Rattle.dtable.proofs.reading.roles.read_limits.Goals as goal

pub returns-in_err-deductible : goal.returns-in_err-deductible
returns-in_err-deductible c =
    passed_on (AreLimits c.args.table.now.names.now (map seen_of c.args.table.now.tables.now) (view c.args.table.now.roles.now)) c.from_residual.result _ c.from_residual.ensures.1
    (λ memory limits h. c.in_err-deductible.ensures memory limits.deductible h.deductible)

pub returns-in_err-oop_max : goal.returns-in_err-oop_max
returns-in_err-oop_max c =
    passed_on (AreLimits c.args.table.now.names.now (map seen_of c.args.table.now.tables.now) (view c.args.table.now.roles.now)) c.from_residual-in_err-oop_max.result _ c.from_residual-in_err-oop_max.ensures.1
    (λ memory limits h. c.in_err-oop_max.ensures memory limits.oop_max h.oop_max)
