use Rattle.std.proofs.Common.{◌≡◌, ◌++◌, map}
use Rattle.std.specs.List.{All}
use Rattle.std.specs.Vec.Iter.{into_iter_items}
use Rattle.settlement.specs.Claim.{IsClaimOf}
use Rattle.gate_calls.specs.Sharing.{settled_by}
use Rattle.gate_calls.proofs.worker.decide_all.Given as goal

abbrev pub invariant-loop-job : goal.invariant-loop-job
invariant-loop-job l =
    (l.adjudicator ≡ l.initial.adjudicator)
    × (l.settled.items ++ map (settled_by l.initial.adjudicator) (into_iter_items l.job-iterator) ≡ map (settled_by l.initial.adjudicator) l.fn.jobs.items)
    × All (λ job. IsClaimOf l.initial.adjudicator job.claim) (into_iter_items l.job-iterator)
