use Rattle.std.proofs.Common.{◌≤◌, length, refl, ◌∙◌, arith}
use Rattle.std.proofs.lemmas.Grind.{common_steps}
use Rattle.journal.specs.Lawful.{Finished}
use Rattle.claim_gate.specs.Terms.{ForTerms}
use Rattle.gate_calls.proofs.Passes.{further, further_where_ok, leaves_later_where_err, unchanged}
use Rattle.crew.proofs.Results.{under_known}
use Rattle.crew.proofs.threads.fn.in_threads.scope.Goals as goal

pub stop-stopped-requires-clause-own : goal.stop-stopped-requires-clause-own
stop-stopped-requires-clause-own g c κs within = c.split-mine.ensures.own.0

pub stop-stopped-requires-clause-terms : goal.stop-stopped-requires-clause-terms
stop-stopped-requires-clause-terms g c κs within = rw c.split-mine.ensures.known.0 c.threads.invariant.1

pub run_thread-requires-clause-own : goal.run_thread-requires-clause-own
run_thread-requires-clause-own g c κs within = c.stop-stopped.ensures.own

pub run_thread-requires-clause-terms : goal.run_thread-requires-clause-terms
run_thread-requires-clause-terms g c κs within =
    let before = rw c.split-mine.ensures.known.0 at c.stop-stopped.ensures.seen in
    before.terms ∙ c.threads.invariant.1

pub run_thread-requires-clause-plan : goal.run_thread-requires-clause-plan
run_thread-requires-clause-plan g c κs within = c.requires.2

pub returns-then-is_err : goal.returns-then-is_err
returns-then-is_err g c =
    let own = g.G.Gate.has_pass c.captures.shared.now.gate.now in
    let known = g.G.Gate.known in
    let mine = c.split-mine.result.0 in
    let split = further own known c.captures.pass c.threads.own mine c.threads.invariant.0
    (unchanged own known c.threads.own mine c.split-mine.ensures.own.0 c.split-mine.ensures.known.0) in
    let here = further own known c.captures.pass mine c.stop-stopped.result split (record { own = c.stop-stopped.ensures.own; seen = c.stop-stopped.ensures.seen }) in record {
      goes_on = further_where_ok own known c.captures.pass c.stop-stopped.result c.run_thread.result here c.run_thread.ensures.goes_on;
      finished = under_known (length c.captures.shared.now.terms.now.files ≤ c.captures.threads) (λ p. ForTerms c.captures.shared.now.terms.now (λ T. Finished T (known p).seen.journal)) c.run_thread.result
          c.requires.3 c.run_thread.ensures.finished;
      leaves = leaves_later_where_err own known g.G.Gate.is_worn c.captures.pass c.stop-stopped.result c.run_thread.result here c.run_thread.ensures.leaves;
      ended = c.run_thread.ensures.ended;
    }

pub threads-preserved : goal.threads-preserved
threads-preserved g c =
    let own = g.G.Gate.has_pass c.captures.shared.now.gate.now in
    let known = g.G.Gate.known in
    let mine = c.split-mine.result.0 in (
      further own known c.captures.pass c.threads.own mine c.threads.invariant.0
          (unchanged own known c.threads.own mine c.split-mine.ensures.own.0 c.split-mine.ensures.known.0),
      rw c.split-mine.ensures.known.0 c.threads.invariant.1,
    )

pub run_thread-requires-2-clause-own : goal.run_thread-requires-2-clause-own
run_thread-requires-2-clause-own g c κs within = c.threads.invariant.0.own

pub run_thread-requires-2-clause-terms : goal.run_thread-requires-2-clause-terms
run_thread-requires-2-clause-terms g c κs within = c.threads.invariant.1

pub run_thread-requires-2-clause-plan : goal.run_thread-requires-2-clause-plan
run_thread-requires-2-clause-plan g c κs within = c.requires.2

pub returns : goal.returns
returns g c =
    let own = g.G.Gate.has_pass c.captures.shared.now.gate.now in
    let known = g.G.Gate.known in record {
      goes_on = further_where_ok own known c.captures.pass c.threads.own c.run_thread-2.result c.threads.invariant.0 c.run_thread-2.ensures.goes_on;
      finished = under_known (length c.captures.shared.now.terms.now.files ≤ c.captures.threads) (λ p. ForTerms c.captures.shared.now.terms.now (λ T. Finished T (known p).seen.journal)) c.run_thread-2.result
          c.requires.3 c.run_thread-2.ensures.finished;
      leaves = leaves_later_where_err own known g.G.Gate.is_worn c.captures.pass c.threads.own c.run_thread-2.result c.threads.invariant.0 c.run_thread-2.ensures.leaves;
      ended = c.run_thread-2.ensures.ended;
    }

pub threads-init : goal.threads-init
threads-init g c = (
  unchanged (g.G.Gate.has_pass c.captures.shared.now.gate.now) g.G.Gate.known c.captures.pass c.captures.pass c.requires.0 refl,
  c.requires.1,
)

pub spawn-requires-after_bounds : goal.spawn-requires-after_bounds
spawn-requires-after_bounds c = grind (arith, common_steps)

pub run_thread-requires-2-sync-R : goal.run_thread-requires-2-sync-R
run_thread-requires-2-sync-R c = grind (arith, common_steps)

pub run_thread-requires-2-send-G-Pass : goal.run_thread-requires-2-send-G-Pass
run_thread-requires-2-send-G-Pass c = grind (arith, common_steps)
