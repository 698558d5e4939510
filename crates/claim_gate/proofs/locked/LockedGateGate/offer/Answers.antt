use Rattle.std.proofs.Common.{◌+◌, ap, ◌∙◌, rules}
use Rattle.claim_gate.proofs.Sharing.{due_stays, section_of, still_for, worn_so}
use Rattle.claim_gate.specs.Replies.{IsFiled}
use Rattle.claim_gate.proofs.locked.LockedGateGate.offer.Goals as goal

pub returns-in-Ok-clause-served : goal.returns-in-Ok-clause-served
returns-in-Ok-clause-served g c =
    let shown = g.S.Value.SerialGate.shown in
    let shows = g.met.S.Value.SerialGate.shows in record {
      own = search rules;
      section = section_of shown g.S.Section.seen g.S.Section.last_found g.S.Section.tally c.args.pass c.leave.result c.in-Ok.state c.offer-reply.new.self
          c.leave.ensures.seen (c.leave.ensures.last ∙ c.in-Ok.ensures.found) (shows (g.S.Section.seen c.args.pass) c.in-Ok.state c.in-Ok.ensures.fresh)
          c.journal-lawful.ensures.lawful (shows c.in-Ok.state c.offer-reply.new.self c.offer-reply.ensures.grown) c.offer-reply.ensures.lawful (c.leave.ensures.tally ∙ ap (λ n. n + 1) c.in-Ok.ensures.tally);
    }

pub returns-in-Ok-clause-reply : goal.returns-in-Ok-clause-reply
returns-in-Ok-clause-reply g c = search rules

pub offer-reply-requires-clause-due : goal.offer-reply-requires-clause-due
offer-reply-requires-clause-due g c =
    let shown = g.S.Value.SerialGate.shown in
    let shows = g.met.S.Value.SerialGate.shows in
    let seen = g.S.Section.seen c.args.pass in
    due_stays (shown seen) (shown c.in-Ok.state) c.args.offer.provider c.args.offer.place (shows seen c.in-Ok.state c.in-Ok.ensures.fresh) c.requires.due

pub returns-in-Err-clause-worn : goal.returns-in-Err-clause-worn
returns-in-Err-clause-worn g c =
    worn_so g.S.Value.SerialGate.shown g.S.Section.seen g.S.Section.last_found g.S.Section.tally _ g.S.Section.is_worn c.args.pass c.in-Err.pass c.in-Err.ensures.back c.in-Err.ensures.worn

pub offer-reply-requires-clause-filed : goal.offer-reply-requires-clause-filed
offer-reply-requires-clause-filed g c =
    let leads = g.met.S.Value.SerialGate.shows (g.S.Section.seen c.args.pass) c.in-Ok.state c.in-Ok.ensures.fresh in
    still_for (g.S.Value.SerialGate.shown (g.S.Section.seen c.args.pass)) (g.S.Value.SerialGate.shown c.in-Ok.state) (λ T. IsFiled T c.args.offer) leads c.requires.filed
