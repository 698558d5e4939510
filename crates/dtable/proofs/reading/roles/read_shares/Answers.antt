use Rattle.dtable.proofs.Exits.{passed_on}
use Rattle.dtable.specs.RoleFile.{AreShares}
use Rattle.dtable.specs.Scope.{seen_of}
use Rattle.toml.specs.View.{view}
use Rattle.std.proofs.Common.{map}
use Rattle.dtable.proofs.reading.roles.read_shares.Goals as goal

pub returns-in_err-copay : goal.returns-in_err-copay
returns-in_err-copay c =
    passed_on (AreShares c.args.table.now.names.now (map seen_of c.args.table.now.tables.now) (view c.args.table.now.roles.now)) c.from_residual.result _ c.from_residual.ensures.1
    (λ memory read h. c.in_err-copay.ensures memory read.copay h.copay)

pub returns-in_err-rate : goal.returns-in_err-rate
returns-in_err-rate c =
    passed_on (AreShares c.args.table.now.names.now (map seen_of c.args.table.now.tables.now) (view c.args.table.now.roles.now)) c.from_residual-in_err-rate.result _ c.from_residual-in_err-rate.ensures.1
    (λ memory read h. c.in_err-rate.ensures memory read.rate h.rate)

pub returns-in_err-oop_max : goal.returns-in_err-oop_max
returns-in_err-oop_max c =
    passed_on (AreShares c.args.table.now.names.now (map seen_of c.args.table.now.tables.now) (view c.args.table.now.roles.now)) c.from_residual-in_err-oop_max.result _ c.from_residual-in_err-oop_max.ensures.1
    (λ memory read h. c.in_err-oop_max.ensures memory read.oop_max h.oop_max)
