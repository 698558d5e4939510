use Rattle.std.proofs.Common.{◌∷◌, ◌++◌, map, refl, sym, ap, ◌∙◌, arith}
use Rattle.std.proofs.lemmas.Grind.{common_steps}
use Rattle.std.proofs.lemmas.List.Elements.{All-head, All-rest, All-same}
use Rattle.std.specs.Vec.Iter.{into_iter_items}
use Rattle.settlement.specs.Claim.{IsClaimOf}
use Rattle.claim_gate.specs.declared.job.Job.{Job}
use Rattle.gate_calls.specs.Sharing.{settled_by}
use Rattle.gate_calls.proofs.HeldClaims.{one_more}
use Rattle.gate_calls.proofs.worker.decide_all.Goals as goal

pub loop-job-preserved : goal.loop-job-preserved
loop-job-preserved c =
    let plan = c.args.adjudicator.now in
    let rest = into_iter_items c.next.new.self in
    let job = c.in-Some.job in
    let items = into_iter_items c.loop-job.job-iterator in
    let one = c.in_ok-one.one in (
      c.in_ok-one.ensures.plan ∙ c.loop-job.invariant.0,
      ap (λ xs. xs ++ map (settled_by plan) rest) c.in_ok-push.ensures.items
          ∙ one_more (settled_by plan) c.loop-job.settled.items items rest job one (map (settled_by plan) c.args.jobs.items) c.in-Some.ensures.steps.0
          (c.in_ok-one.ensures.settled ∙ ap (λ p. settled_by p job) c.loop-job.invariant.0) c.loop-job.invariant.1,
      All-rest (λ j. IsClaimOf plan j.claim) job rest items c.in-Some.ensures.steps.0 c.loop-job.invariant.2,
    )

pub loop-job-init : goal.loop-job-init
loop-job-init c =
    let plan = c.args.adjudicator.now in
    let items = into_iter_items c.into_iter-job-iterator.result in
    let gives = c.into_iter-job-iterator.ensures.into_iter_gives in (
      refl,
      ap (λ xs. xs ++ map (settled_by plan) items) c.in_ok-settled.ensures.items ∙ ap (map (settled_by plan)) gives.0,
      All-same (λ j. IsClaimOf plan j.claim) items c.args.jobs.items gives.0 c.requires.fields,
    )

pub returns-clause-settled : goal.returns-clause-settled
returns-clause-settled c = grind (arith, common_steps)

pub settle-requires-clause-fields : goal.settle-requires-clause-fields
settle-requires-clause-fields c =
    let P : Job → Type 0 = λ j. IsClaimOf c.args.adjudicator.now j.claim in
    let rest = into_iter_items c.next.new.self in
    let all = All-same P (c.in-Some.job ∷ rest) (into_iter_items c.loop-job.job-iterator) (sym c.in-Some.ensures.steps.0) c.loop-job.invariant.2 in
    rw c.loop-job.invariant.0 (All-head P c.in-Some.job rest all)

pub settle-requires-clause-roles : goal.settle-requires-clause-roles
settle-requires-clause-roles c = rw c.loop-job.invariant.0 c.requires.roles

pub returns-clause-plan : goal.returns-clause-plan
returns-clause-plan c = grind (arith, common_steps)
