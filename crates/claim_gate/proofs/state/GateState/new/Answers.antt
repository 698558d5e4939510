use Rattle.std.proofs.Common.{ap, rules}
use Rattle.claim_gate.proofs.Replying.{IsStarted, running, starts}
use Rattle.claim_gate.proofs.state.GateState.new.Goals as goal

done : (c : goal.After-new-2) → IsStarted c.args.terms.now c.close_if_due-closed.new.journal.items c.new-2.result c.in_ok-intakes.intakes c.close_if_due-closed.result
done c =
    starts c.args.terms.now c.files.result.now c.reserve.new.self.items c.close_if_due-closed.new.journal.items c.new-2.result c.in_ok-intakes.intakes c.close_if_due-closed.result
    c.empty_journal_is_lawful.ensures c.files.ensures.terms c.files.ensures.files (search rules) (search rules) (search rules) (search rules) (search rules)

pub invariant_of-result : goal.invariant_of-result
invariant_of-result c = (done c).keeps

pub returns : goal.returns
returns c = ap (running c.args.terms.now) (done c).journal
