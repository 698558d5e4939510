use Rattle.std.proofs.Common.{Option, subst}
use Rattle.std.specs.Prelude.{IfSome}
use Rattle.journal.specs.Leading.{leads_itself}
use Rattle.claim_gate.specs.declared.job.Job.{Job}
use Rattle.test_gate.specs.Words.{IsAtWork}
use Rattle.test_gate.proofs.Jobs.{last_stays, stop_leads}
use Rattle.test_gate.proofs.tests.alone.make.Goals as goal

pub returns-in-Offer-clause-at_work : goal.returns-in-Offer-clause-at_work
returns-in-Offer-clause-at_work g c =
    last_stays c.jobs_are_stable.ensures c.args.gate.now c.offer.new.gate c.args.job c.offer.ensures c.requires.at_work

pub returns-in-End-clause-at_work : goal.returns-in-End-clause-at_work
returns-in-End-clause-at_work g c =
    last_stays c.jobs_are_stable.ensures c.args.gate.now c.end.new.gate c.args.job c.end.ensures c.requires.at_work

pub finish-requires-clause-at_work : goal.finish-requires-clause-at_work
finish-requires-clause-at_work g c = subst (λ (h : Option Job). IfSome h (IsAtWork c.args.gate.now)) c.job_of.ensures c.requires.at_work

pub returns-in-Stop-clause-leads : goal.returns-in-Stop-clause-leads
returns-in-Stop-clause-leads g c = stop_leads c.args.gate.now c.stop.new.self c.stop.ensures.stopped

pub returns-in-Stop-clause-at_work : goal.returns-in-Stop-clause-at_work
returns-in-Stop-clause-at_work g c =
    last_stays c.jobs_are_stable.ensures c.args.gate.now c.stop.new.self c.args.job (stop_leads c.args.gate.now c.stop.new.self c.stop.ensures.stopped) c.requires.at_work

pub returns-in-Counts-clause-leads : goal.returns-in-Counts-clause-leads
returns-in-Counts-clause-leads g c = leads_itself c.args.gate.now

pub returns-in-Holds-clause-leads : goal.returns-in-Holds-clause-leads
returns-in-Holds-clause-leads g c = leads_itself c.args.gate.now
