use Rattle.std.proofs.Common.{◌∙◌}
use Rattle.settlement.proofs.AllBound.{claim_of_seen, ready_where_served}
use Rattle.settlement.proofs.ReadAlike.{outcome_where_served}
use Rattle.settlement.proofs.deciding.Adjudicator.decide.Goals as goal

pub bind-requires : goal.bind-requires
bind-requires g c =
    let plan = g.V.Valuer.plan_of c.self.inside.valuer.now in
    (plan, c.self.invariant.0, claim_of_seen plan c.args.self.now c.args.claim.now c.self.view_is c.requires.fields)

pub decide_by_class-requires-clause-workspace : goal.decide_by_class-requires-clause-workspace
decide_by_class-requires-clause-workspace g c =
    c.bind.ensures.workspace (g.V.Valuer.plan_of c.self.inside.valuer.now) c.self.invariant.0

pub decide_by_class-requires-clause-ready : goal.decide_by_class-requires-clause-ready
decide_by_class-requires-clause-ready g c =
    let plan = g.V.Valuer.plan_of c.self.inside.valuer.now in
    let is = claim_of_seen plan c.args.self.now c.args.claim.now c.self.view_is c.requires.fields in
    let serves = c.in_ok-bind.ensures.serves plan c.self.invariant.0 is in
    ready_where_served plan c.args.claim.now c.args.acc c.bind.new.self.inputs c.self.invariant.0.laid_out.sound is serves

pub returns-clause-decided : goal.returns-clause-decided
returns-clause-decided g c =
    let plan = g.V.Valuer.plan_of c.self.inside.valuer.now in
    let given = c.bind.new.self.inputs in
    let is = claim_of_seen plan c.args.self.now c.args.claim.now c.self.view_is c.requires.fields in
    let serves = c.in_ok-bind.ensures.serves plan c.self.invariant.0 is in
    c.in_ok-decided.ensures.decided ∙ outcome_where_served plan c.args.self.now c.args.claim.now c.args.acc given c.self.view_is serves

pub invariant_of-self : goal.invariant_of-self
invariant_of-self g c =
    (c.bind.ensures.workspace (g.V.Valuer.plan_of c.self.inside.valuer.now) c.self.invariant.0, c.self.invariant.1)

pub invariant_of-self-2 : goal.invariant_of-self-2
invariant_of-self-2 g c =
    let plan = g.V.Valuer.plan_of c.self.inside.valuer.now in
    (c.keep_remarks.ensures plan (c.bind.ensures.workspace plan c.self.invariant.0), c.decide_by_class.ensures.true_still)
