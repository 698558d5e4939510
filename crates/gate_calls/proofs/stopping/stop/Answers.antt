use Rattle.std.proofs.Common.{inl, inr}
use Rattle.gate_calls.proofs.Passes.{unchanged}
use Rattle.gate_calls.proofs.Sections.{led, stops_seen}
use Rattle.gate_calls.proofs.stopping.stop.Goals as goal

pub returns-in-Ok-clause-own : goal.returns-in-Ok-clause-own
returns-in-Ok-clause-own g c = c.in-Ok.ensures.served.own

pub returns-in-Ok-clause-seen : goal.returns-in-Ok-clause-seen
returns-in-Ok-clause-seen g c = led (g.G.Gate.known c.args.pass) (g.G.Gate.known c.in-Ok.pass) c.in-Ok.ensures.served.section

pub returns-in-Ok-clause-stopped : goal.returns-in-Ok-clause-stopped
returns-in-Ok-clause-stopped g c =
    inl (stops_seen c.args.terms.now c.claim_lists_exist.ensures (g.G.Gate.known c.args.pass) (g.G.Gate.known c.in-Ok.pass) c.requires.terms
    c.in-Ok.ensures.served.section c.in-Ok.ensures.stopped)

pub returns-in-Err-clause-own : goal.returns-in-Err-clause-own
returns-in-Err-clause-own g c =
    let worn = c.in-Err.ensures.worn in
    worn.own

pub returns-in-Err-clause-seen : goal.returns-in-Err-clause-seen
returns-in-Err-clause-seen g c =
    let worn = c.in-Err.ensures.worn in
    (unchanged (g.G.Gate.has_pass c.args.gate.now) g.G.Gate.known c.args.pass c.in-Err.worn.pass worn.own worn.same).seen

pub returns-in-Err-clause-stopped : goal.returns-in-Err-clause-stopped
returns-in-Err-clause-stopped g c =
    let worn = c.in-Err.ensures.worn in
    inr worn.worn
