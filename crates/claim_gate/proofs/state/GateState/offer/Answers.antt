use Rattle.std.proofs.Common.{rules, subst}
use Rattle.journal.specs.Leading.{leads_itself}
use Rattle.claim_gate.specs.Shared.{IsLawful}
use Rattle.claim_gate.proofs.Replying.{out_of_turn, in_turn}
use Rattle.claim_gate.proofs.state.GateState.offer.Goals as goal

pub returns-then-offer-expected-clause-reply : goal.returns-then-offer-expected-clause-reply
returns-then-offer-expected-clause-reply c =
    out_of_turn c.self.inside c.args.self.now c.self.view_is c.self.invariant c.args.offer c.accepted_count-expected.result c.requires.filed (search rules) (search rules) (search rules) (search rules)

pub accept-requires-clause-in_turn : goal.accept-requires-clause-in_turn
accept-requires-clause-in_turn c =
    in_turn c.self.inside c.args.self.now c.self.view_is c.self.invariant c.args.offer c.accepted_count-expected.result c.requires.filed (search rules) (search rules)

pub returns-then-self-2-clause-reply : goal.returns-then-self-2-clause-reply
returns-then-self-2-clause-reply c = search rules

pub returns-then-self-2-clause-lawful : goal.returns-then-self-2-clause-lawful
returns-then-self-2-clause-lawful c = search rules

pub returns-then-self-2-clause-refused : goal.returns-then-self-2-clause-refused
returns-then-self-2-clause-refused c = search rules

pub accept-requires-clause-open_yet : goal.accept-requires-clause-open_yet
accept-requires-clause-open_yet c = search rules

pub returns-then-offer-expected-clause-leads : goal.returns-then-offer-expected-clause-leads
returns-then-offer-expected-clause-leads c = leads_itself c.args.self.now

pub returns-then-offer-expected-clause-lawful : goal.returns-then-offer-expected-clause-lawful
returns-then-offer-expected-clause-lawful c = subst IsLawful c.self.view_is c.self.invariant.lawful

pub returns-then-self-clause-leads : goal.returns-then-self-clause-leads
returns-then-self-clause-leads c = leads_itself c.args.self.now

pub returns-then-self-clause-lawful : goal.returns-then-self-clause-lawful
returns-then-self-clause-lawful c = subst IsLawful c.self.view_is c.self.invariant.lawful
