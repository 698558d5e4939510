use Rattle.std.proofs.Common.{map}
use Rattle.toml.specs.View.{view}
use Rattle.dtable.specs.Scope.{seen_of}
use Rattle.dtable.proofs.ReadRoles.{limits_kept, no_limits, no_limits_kept}
use Rattle.dtable.proofs.Exits.{passed_on}
use Rattle.dtable.specs.RoleFile.{AreFamilyRoles}
use Rattle.dtable.proofs.reading.roles.read_family_roles.Goals as goal

pub returns-then-not-families : goal.returns-then-not-families
returns-then-not-families c =
    no_limits_kept c.args.table.now.names.now (map seen_of c.args.table.now.tables.now) c.args.families (view c.args.table.now.roles.now) cc

pub returns-in_err-limits : goal.returns-in_err-limits
returns-in_err-limits c =
    passed_on (AreFamilyRoles c.args.families c.args.table.now.names.now (map seen_of c.args.table.now.tables.now) (view c.args.table.now.roles.now)) c.from_residual.result _ c.from_residual.ensures.1
    (λ memory. no_limits c.args.table.now.names.now (map seen_of c.args.table.now.tables.now) c.args.families (view c.args.table.now.roles.now) (cc) (c.in_err-limits.ensures memory))

pub returns : goal.returns
returns c =
    limits_kept c.args.table.now.names.now (map seen_of c.args.table.now.tables.now) c.args.families (view c.args.table.now.roles.now) c.in_ok-limits.limits (cc) c.in_ok-limits.ensures
