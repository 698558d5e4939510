use Rattle.std.proofs.Common.{◌∙◌}
use Rattle.test_gate.proofs.Jobs.{last_stays}
use Rattle.test_gate.proofs.tests.alone.go_by.Goals as goal

pub returns-in-One-clause-terms : goal.returns-in-One-clause-terms
returns-in-One-clause-terms g c = c.go.ensures.leads.terms ∙ c.requires.terms

pub returns-in-One-clause-other : goal.returns-in-One-clause-other
returns-in-One-clause-other g c =
    last_stays c.jobs_are_stable.ensures c.args.gate.now c.go.new.gate c.args.jobs.other c.go.ensures.leads c.requires.other

pub returns-in-Other-clause-terms : goal.returns-in-Other-clause-terms
returns-in-Other-clause-terms g c = c.go-in-Other.ensures.leads.terms ∙ c.requires.terms

pub returns-in-Other-clause-one : goal.returns-in-Other-clause-one
returns-in-Other-clause-one g c =
    last_stays c.jobs_are_stable.ensures c.args.gate.now c.go-in-Other.new.gate c.args.jobs.one c.go-in-Other.ensures.leads c.requires.one
