use Rattle.plan_zones.specs.declared.benefit.Benefit.TheVariants.{Covered}
use Rattle.plan_zones.proofs.Parts.{denied_new, denied_old, part_against, part_as, pended_new, pended_old}
use Rattle.plan_zones.proofs.benefit.Benefit.change_from_covered.Goals as goal

pub returns-in-Covered-clause-old : goal.returns-in-Covered-clause-old
returns-in-Covered-clause-old c =
    part_against c.args.self (Covered c.args.terms c.args.remarks) (Covered c.in-Covered.others c.in-Covered.theirs) c.covered_change.result.old c.in-Covered.is c.covered_change.ensures.old

pub returns-in-Covered-clause-new : goal.returns-in-Covered-clause-new
returns-in-Covered-clause-new c =
    part_as c.args.self (Covered c.args.terms c.args.remarks) (Covered c.in-Covered.others c.in-Covered.theirs) c.covered_change.result.new c.in-Covered.is c.covered_change.ensures.new

pub returns-in-Denied-clause-old : goal.returns-in-Denied-clause-old
returns-in-Denied-clause-old c = denied_new c.args.self (Covered c.args.terms c.args.remarks) c.in-Denied.theirs c.in-Denied.is

pub returns-in-Denied-clause-new : goal.returns-in-Denied-clause-new
returns-in-Denied-clause-new c = denied_old c.args.self (Covered c.args.terms c.args.remarks) c.in-Denied.theirs c.in-Denied.is

pub returns-in-Pends-clause-old : goal.returns-in-Pends-clause-old
returns-in-Pends-clause-old c = pended_new c.args.self (Covered c.args.terms c.args.remarks) c.in-Pends.reason c.in-Pends.is

pub returns-in-Pends-clause-new : goal.returns-in-Pends-clause-new
returns-in-Pends-clause-new c = pended_old c.args.self (Covered c.args.terms c.args.remarks) c.in-Pends.reason c.in-Pends.is
