use Rattle.test_gate.proofs.Callers.{without_job}
use Rattle.test_gate.proofs.tests.play.play.Goals as goal

pub loop-entry-init : goal.loop-entry-init
loop-entry-init g c =
    let own = g.G.Gate.has_pass c.args.gate.now in
    let known = g.G.Gate.known in record {
      one = without_job own known c.args.terms.now c.args.passes.0 c.requires.one;
      other = without_job own known c.args.terms.now c.args.passes.1 c.requires.other;
    }

pub returns-clause-one : goal.returns-clause-one
returns-clause-one g c = c.loop-entry.invariant.one.caller

pub returns-clause-other : goal.returns-clause-other
returns-clause-other g c = c.loop-entry.invariant.other.caller
