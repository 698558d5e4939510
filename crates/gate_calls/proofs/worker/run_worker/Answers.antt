use Rattle.std.proofs.Common.{◌≡◌, [], map, ap, refl, subst, ◌∙◌, sym, arith}
use Rattle.std.proofs.lemmas.Grind.{common_steps}
use Rattle.std.proofs.lemmas.Bool.{false≢true}
use Rattle.std.proofs.lemmas.List.Elements.{All-same}
use Rattle.claim_gate.specs.Terms.{IsTermsOf}
use Rattle.gate_calls.specs.Sharing.{IsSettledIn, settled_by}
use Rattle.gate_calls.proofs.HeldClaims.{all_have_fields, all_settled}
use Rattle.gate_calls.proofs.Passes.{further, leaves_for_memory, leaves_later, unchanged}
use Rattle.gate_calls.proofs.worker.run_worker.Goals as goal

pub loop-preserved : goal.loop-preserved
loop-preserved g c =
    let after = (g.G.Gate.known c.in-Ok-take_turn.onward.pass).seen in
    let on = c.in-Ok-take_turn.ensures in
    let jobs = c.in-Jobs.jobs.items in
    let gathered = (rw c.in-Jobs.is at on.gathered).in_work in
    let plan : c.loop.adjudicator ≡ after.terms.plan = c.loop.invariant.4 ∙ ap (λ terms. terms.plan) (sym (on.goes_on.seen.terms ∙ c.loop.invariant.3)) in (
      tt,
      tt,
      further (g.G.Gate.has_pass c.args.shared.now.gate.now) g.G.Gate.known c.args.pass c.loop.pass c.in-Ok-take_turn.onward.pass c.loop.invariant.2 on.goes_on,
      on.goes_on.seen.terms ∙ c.loop.invariant.3,
      c.in-Ok-decide_all.ensures.plan ∙ c.loop.invariant.4,
      All-same (IsSettledIn after) c.in-Ok-decide_all.decided.items (map (settled_by c.loop.adjudicator) jobs) c.in-Ok-decide_all.ensures.settled
          (all_settled after c.loop.adjudicator jobs plan gathered),
    )

pub returns-in_default-clause-leaves : goal.returns-in_default-clause-leaves
returns-in_default-clause-leaves g c =
    let own = g.G.Gate.has_pass c.args.shared.now.gate.now in
    let known = g.G.Gate.known in
    leaves_for_memory own known g.G.Gate.is_worn c.args.pass c.args.pass (unchanged own known c.args.pass c.args.pass c.requires.own refl)

pub returns-in-Err-clause-leaves : goal.returns-in-Err-clause-leaves
returns-in-Err-clause-leaves g c =
    leaves_later (g.G.Gate.has_pass c.args.shared.now.gate.now) g.G.Gate.known g.G.Gate.is_worn c.args.pass c.loop.pass c.in-Err.exit c.loop.invariant.2 c.in-Err.ensures.leaves

pub returns-in-Over-clause-goes_on : goal.returns-in-Over-clause-goes_on
returns-in-Over-clause-goes_on g c =
    further (g.G.Gate.has_pass c.args.shared.now.gate.now) g.G.Gate.known c.args.pass c.loop.pass c.in-Ok-take_turn.onward.pass c.loop.invariant.2 c.in-Ok-take_turn.ensures.goes_on

pub take_turn-requires-clause-own : goal.take_turn-requires-clause-own
take_turn-requires-clause-own g c κs within = c.loop.invariant.2.own

pub take_turn-requires-clause-terms : goal.take_turn-requires-clause-terms
take_turn-requires-clause-terms g c κs within = c.loop.invariant.3

pub take_turn-requires-clause-settled : goal.take_turn-requires-clause-settled
take_turn-requires-clause-settled g c κs within = c.loop.invariant.5

pub returns-in-Over-clause-finished : goal.returns-in-Over-clause-finished
returns-in-Over-clause-finished g c T is =
    let on = c.in-Ok-take_turn.ensures in
    let gathered = rw c.in-Over.is at on.gathered in
    gathered T (subst (λ terms. IsTermsOf terms T) (sym (on.goes_on.seen.terms ∙ c.loop.invariant.3)) is)

pub decide_all-requires-clause-fields : goal.decide_all-requires-clause-fields
decide_all-requires-clause-fields g c =
    let after = (g.G.Gate.known c.in-Ok-take_turn.onward.pass).seen in
    let on = c.in-Ok-take_turn.ensures in
    let gathered = (rw c.in-Jobs.is at on.gathered).in_work in
    let plan : c.loop.adjudicator ≡ after.terms.plan = c.loop.invariant.4 ∙ ap (λ terms. terms.plan) (sym (on.goes_on.seen.terms ∙ c.loop.invariant.3)) in
    all_have_fields after c.loop.adjudicator c.in-Jobs.jobs.items plan gathered

pub returns-in_default-decide_all-clause-leaves : goal.returns-in_default-decide_all-clause-leaves
returns-in_default-decide_all-clause-leaves g c =
    let own = g.G.Gate.has_pass c.args.shared.now.gate.now in
    let known = g.G.Gate.known in
    let back = c.in-Ok-take_turn.onward.pass in
    leaves_for_memory own known g.G.Gate.is_worn c.args.pass back (further own known c.args.pass c.loop.pass back c.loop.invariant.2 c.in-Ok-take_turn.ensures.goes_on)

pub loop-init : goal.loop-init
loop-init g c =
    let P = IsSettledIn (g.G.Gate.known c.args.pass).seen in (
      tt,
      tt,
      unchanged (g.G.Gate.has_pass c.args.shared.now.gate.now) g.G.Gate.known c.args.pass c.args.pass c.requires.own refl,
      c.requires.terms,
      c.in-Ok.ensures ∙ c.requires.plan,
      All-same P c.new-settled.result.items [] c.new-settled.ensures.items (λ k d within. absurd (omega (arith, within))),
    )

pub decide_all-requires-clause-roles : goal.decide_all-requires-clause-roles
decide_all-requires-clause-roles g c = rw c.loop.invariant.4 c.plan-plan.ensures.terms.roles

pub unreachable-requires : goal.unreachable-requires
unreachable-requires g c = false≢true c.in-None.ensures.steps

pub returns-in-Over-clause-leaves : goal.returns-in-Over-clause-leaves
returns-in-Over-clause-leaves c = grind (arith, common_steps)

pub unreachable-unreachable : goal.unreachable-unreachable
unreachable-unreachable c = grind (arith, common_steps)

pub returns-in_default-decide_all-clause-goes_on : goal.returns-in_default-decide_all-clause-goes_on
returns-in_default-decide_all-clause-goes_on c = grind (arith, common_steps)

pub loop-init-derived : goal.loop-init-derived
loop-init-derived c = grind (arith, common_steps)

pub returns-in_default-decide_all-clause-finished : goal.returns-in_default-decide_all-clause-finished
returns-in_default-decide_all-clause-finished c = grind (arith, common_steps)

pub returns-in-Err-clause-finished : goal.returns-in-Err-clause-finished
returns-in-Err-clause-finished c = grind (arith, common_steps)

pub returns-in-Err-clause-goes_on : goal.returns-in-Err-clause-goes_on
returns-in-Err-clause-goes_on c = grind (arith, common_steps)
