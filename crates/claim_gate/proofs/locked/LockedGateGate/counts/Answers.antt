use Rattle.std.proofs.Common.{◌+◌, sym, ap, ◌∙◌, subst, rules}
use Rattle.journal.specs.Gate.{Counts}
use Rattle.journal.specs.Leading.{leads_itself}
use Rattle.claim_gate.specs.Parts.{at}
use Rattle.claim_gate.proofs.Sharing.{section_of, worn_so}
use Rattle.claim_gate.proofs.locked.LockedGateGate.counts.Goals as goal

pub returns-in-Ok-clause-reply : goal.returns-in-Ok-clause-reply
returns-in-Ok-clause-reply g c =
    let shown = g.S.Value.SerialGate.shown in
    let found_is = ap shown (c.leave.ensures.last ∙ c.in-Ok.ensures.found) in
    let counts = c.counts-reply.result in
    λ T is. (
      ap (at T) (ap shown c.leave.ensures.seen ∙ sym found_is),
      subst (λ gate. Counts (at T gate) counts.accepted counts.ended counts.decided counts.closed counts.stopped) (sym found_is) (c.counts-reply.ensures T),
    )

pub returns-in-Ok-clause-served : goal.returns-in-Ok-clause-served
returns-in-Ok-clause-served g c =
    let shown = g.S.Value.SerialGate.shown in
    let shows = g.met.S.Value.SerialGate.shows in record {
      own = search rules;
      section = section_of shown g.S.Section.seen g.S.Section.last_found g.S.Section.tally c.args.pass c.leave.result c.in-Ok.state c.in-Ok.state
          c.leave.ensures.seen (c.leave.ensures.last ∙ c.in-Ok.ensures.found) (shows (g.S.Section.seen c.args.pass) c.in-Ok.state c.in-Ok.ensures.fresh)
          c.journal-lawful.ensures.lawful (leads_itself (shown c.in-Ok.state)) c.journal-lawful.ensures.lawful (c.leave.ensures.tally ∙ ap (λ n. n + 1) c.in-Ok.ensures.tally);
    }

pub returns-in-Err-clause-worn : goal.returns-in-Err-clause-worn
returns-in-Err-clause-worn g c =
    worn_so g.S.Value.SerialGate.shown g.S.Section.seen g.S.Section.last_found g.S.Section.tally _ g.S.Section.is_worn c.args.pass c.in-Err.pass c.in-Err.ensures.back c.in-Err.ensures.worn
