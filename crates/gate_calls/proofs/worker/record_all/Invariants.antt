use Rattle.std.proofs.Common.{◌≡◌, ◌++◌, List, length}
use Rattle.std.specs.List.{All}
use Rattle.std.specs.Vec.Iter.{into_iter_items, into_iter_len}
use Rattle.gate_calls.specs.Passes.{GoesOn}
use Rattle.claim_gate.specs.declared.job.DecidedJob.{DecidedJob}
use Rattle.gate_calls.specs.Sharing.{IsRecordedIn, IsSettledIn}
use Rattle.gate_calls.proofs.worker.record_all.Given as goal

abbrev pub invariant-loop-one : goal.invariant-loop-one
invariant-loop-one g l =
    GoesOn (g.G.Gate.has_pass l.shared.gate.now) g.G.Gate.known l.initial.pass l.pass
    × ((g.G.Gate.known l.pass).seen.terms ≡ l.shared.terms.now) × All (IsSettledIn (g.G.Gate.known l.pass).seen) (into_iter_items l.one-iterator)
    × (done : List DecidedJob) × (done ++ into_iter_items l.one-iterator ≡ l.fn.settled.items) × All (IsRecordedIn (g.G.Gate.known l.pass).seen) done
    × (into_iter_len l.one-iterator ≡ length (into_iter_items l.one-iterator))
