use Rattle.std.proofs.Common.{◌∙◌, ap}
use Rattle.claim_gate.specs.Terms.{TermsParts}
use Rattle.gate_calls.proofs.Sections.{accepts_on}
use Rattle.test_run.proofs.threads.earlier.accept.Goals as goal

pub returns-clause-taken : goal.returns-clause-taken
returns-clause-taken g c =
    let reply = rw c.in-Ok-reply.is at c.in-Ok.ensures.reply in
    (accepts_on c.args.terms.now c.claim_lists_exist.ensures (g.G.Gate.known c.args.pass) (g.G.Gate.known c.in-Ok.served.pass) c.requires.terms
    c.in-Ok.ensures.served.section 1 c.args.place c.in-Ok-reply.accepted.position reply).1

pub offer-requires-clause-due : goal.offer-requires-clause-due
offer-requires-clause-due g c ordered = absurd (ordered (ap (λ (t : TermsParts). t.order) c.requires.terms ∙ c.requires.any_order))
