use Rattle.std.proofs.Common.{rules}
use Rattle.claim_gate.proofs.Replying.{over_finished}
use Rattle.claim_gate.proofs.batch.Batch.from_state.Goals as goal

pub invariant_of-result : goal.invariant_of-result
invariant_of-result c T is =
    over_finished T c.args.state.journal c.into_journal.result.items c.into_journal.ensures.journal (c.into_journal.ensures.lawful T (rw c.requires is)) (c.is_over.ensures.0 (search rules))

pub returns-clause-finished : goal.returns-clause-finished
returns-clause-finished c T is = invariant_of-result c T is
