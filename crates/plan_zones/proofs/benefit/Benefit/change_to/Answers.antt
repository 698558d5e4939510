use Rattle.plan_zones.specs.declared.benefit.Benefit.TheVariants.{Covered}
use Rattle.plan_zones.proofs.Parts.{denied_new, denied_old, part_against, part_as, pended_new, pended_old}
use Rattle.plan_zones.proofs.benefit.Benefit.change_to.Goals as goal

pub returns-in-Covered-clause-old : goal.returns-in-Covered-clause-old
returns-in-Covered-clause-old c =
    part_as c.args.self c.args.new (Covered c.in-Covered.terms c.in-Covered.remarks) c.change_from_covered.result.old c.in-Covered.is c.change_from_covered.ensures.old

pub returns-in-Covered-clause-new : goal.returns-in-Covered-clause-new
returns-in-Covered-clause-new c =
    part_against c.args.self c.args.new (Covered c.in-Covered.terms c.in-Covered.remarks) c.change_from_covered.result.new c.in-Covered.is c.change_from_covered.ensures.new

pub returns-in-Denied-clause-old : goal.returns-in-Denied-clause-old
returns-in-Denied-clause-old c = denied_old c.args.self c.args.new c.in-Denied.remarks c.in-Denied.is

pub returns-in-Denied-clause-new : goal.returns-in-Denied-clause-new
returns-in-Denied-clause-new c = denied_new c.args.self c.args.new c.in-Denied.remarks c.in-Denied.is

pub returns-in-Pends-clause-old : goal.returns-in-Pends-clause-old
returns-in-Pends-clause-old c = pended_old c.args.self c.args.new c.in-Pends.reason c.in-Pends.is

pub returns-in-Pends-clause-new : goal.returns-in-Pends-clause-new
returns-in-Pends-clause-new c = pended_new c.args.self c.args.new c.in-Pends.reason c.in-Pends.is
