use Rattle.std.proofs.Common.{◌+◌, ap, ◌∙◌, rules}
use Rattle.journal.specs.Gate.{Takes}
use Rattle.claim_gate.specs.Replies.{take_reply}
use Rattle.claim_gate.proofs.Sharing.{section_of, went_so, work_so, worn_so}
use Rattle.claim_gate.proofs.locked.LockedGateGate.take.Goals as goal

pub returns-in-Ok-clause-served : goal.returns-in-Ok-clause-served
returns-in-Ok-clause-served g c =
    let shown = g.S.Value.SerialGate.shown in
    let shows = g.met.S.Value.SerialGate.shows in record {
      own = search rules;
      section = section_of shown g.S.Section.seen g.S.Section.last_found g.S.Section.tally c.args.pass c.leave.result c.in-Ok.state c.take-reply.new.self
          c.leave.ensures.seen (c.leave.ensures.last ∙ c.in-Ok.ensures.found) (shows (g.S.Section.seen c.args.pass) c.in-Ok.state c.in-Ok.ensures.fresh)
          c.journal-lawful.ensures.lawful (shows c.in-Ok.state c.take-reply.new.self c.take-reply.ensures.grown) c.take-reply.ensures.lawful (c.leave.ensures.tally ∙ ap (λ n. n + 1) c.in-Ok.ensures.tally);
    }

pub returns-in-Ok-clause-reply : goal.returns-in-Ok-clause-reply
returns-in-Ok-clause-reply g c =
    went_so g.S.Value.SerialGate.shown g.S.Section.seen g.S.Section.last_found g.S.Section.tally c.args.pass c.leave.result c.in-Ok.state c.take-reply.new.self
    c.leave.ensures.seen (c.leave.ensures.last ∙ c.in-Ok.ensures.found) (λ old new. Takes old (take_reply c.take-reply.result) new) c.take-reply.ensures.reply

pub returns-in-Err-clause-worn : goal.returns-in-Err-clause-worn
returns-in-Err-clause-worn g c =
    worn_so g.S.Value.SerialGate.shown g.S.Section.seen g.S.Section.last_found g.S.Section.tally _ g.S.Section.is_worn c.args.pass c.in-Err.pass c.in-Err.ensures.back c.in-Err.ensures.worn

pub leave-requires-clause-grown : goal.leave-requires-clause-grown
leave-requires-clause-grown g c = rw c.in-Ok.ensures.found c.take-reply.ensures.grown

pub returns-in-Ok-clause-work : goal.returns-in-Ok-clause-work
returns-in-Ok-clause-work g c =
    work_so g.S.Value.SerialGate.shown g.S.Section.seen g.S.Section.last_found g.S.Section.tally c.args.pass c.leave.result c.in-Ok.state c.take-reply.new.self
    c.leave.ensures.seen (c.leave.ensures.last ∙ c.in-Ok.ensures.found) c.take-reply.result c.take-reply.ensures.work
