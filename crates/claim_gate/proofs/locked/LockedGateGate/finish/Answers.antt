use Rattle.std.proofs.Common.{◌+◌, sym, ap, ◌∙◌, rules}
use Rattle.journal.specs.Gate.{Finishes}
use Rattle.claim_gate.specs.Replies.{finish_reply}
use Rattle.claim_gate.proofs.Sharing.{any_goes_on, job_stays, section_of, went_so, worn_so}
use Rattle.journal.specs.Events.{is_take}
use Rattle.journal.specs.Settled.{outcome_of}
use Rattle.claim_gate.specs.Terms.{TermsParts}
use Rattle.claim_gate.proofs.locked.LockedGateGate.finish.Goals as goal

pub finish-reply-requires-clause-job : goal.finish-reply-requires-clause-job
finish-reply-requires-clause-job g c =
    let shown = g.S.Value.SerialGate.shown in
    let seen = g.S.Section.seen c.args.pass in
    job_stays c.jobs_are_stable.ensures (shown seen) (shown c.in-Ok.state) c.args.job.position c.args.job.claim c.args.job.acc
    (g.met.S.Value.SerialGate.shows seen c.in-Ok.state c.in-Ok.ensures.fresh) c.requires.job

pub returns-in-Ok-clause-served : goal.returns-in-Ok-clause-served
returns-in-Ok-clause-served g c =
    let shown = g.S.Value.SerialGate.shown in
    let shows = g.met.S.Value.SerialGate.shows in record {
      own = search rules;
      section = section_of shown g.S.Section.seen g.S.Section.last_found g.S.Section.tally c.args.pass c.leave.result c.in-Ok.state c.finish-reply.new.self
          c.leave.ensures.seen (c.leave.ensures.last ∙ c.in-Ok.ensures.found) (shows (g.S.Section.seen c.args.pass) c.in-Ok.state c.in-Ok.ensures.fresh)
          c.journal-lawful.ensures.lawful (shows c.in-Ok.state c.finish-reply.new.self c.finish-reply.ensures.grown) c.finish-reply.ensures.lawful (c.leave.ensures.tally ∙ ap (λ n. n + 1) c.in-Ok.ensures.tally);
    }

pub returns-in-Ok-clause-reply : goal.returns-in-Ok-clause-reply
returns-in-Ok-clause-reply g c =
    went_so g.S.Value.SerialGate.shown g.S.Section.seen g.S.Section.last_found g.S.Section.tally c.args.pass c.leave.result c.in-Ok.state c.finish-reply.new.self
    c.leave.ensures.seen (c.leave.ensures.last ∙ c.in-Ok.ensures.found) (λ old new. Finishes old c.args.job.position c.args.outcome (finish_reply c.finish-reply.result) new) c.finish-reply.ensures.reply

pub returns-in-Err-clause-worn : goal.returns-in-Err-clause-worn
returns-in-Err-clause-worn g c =
    worn_so g.S.Value.SerialGate.shown g.S.Section.seen g.S.Section.last_found g.S.Section.tally _ g.S.Section.is_worn c.args.pass c.in-Err.pass c.in-Err.ensures.back c.in-Err.ensures.worn

pub leave-requires-clause-grown : goal.leave-requires-clause-grown
leave-requires-clause-grown g c = rw c.in-Ok.ensures.found c.finish-reply.ensures.grown

pub finish-reply-requires-clause-in_work : goal.finish-reply-requires-clause-in_work
finish-reply-requires-clause-in_work g c =
    let shown = g.S.Value.SerialGate.shown in
    let leads = g.met.S.Value.SerialGate.shows (g.S.Section.seen c.args.pass) c.in-Ok.state c.in-Ok.ensures.fresh in
    any_goes_on (is_take c.args.job.position) (shown (g.S.Section.seen c.args.pass)).journal (shown c.in-Ok.state).journal leads.journal c.requires.in_work

pub finish-reply-requires-clause-settled : goal.finish-reply-requires-clause-settled
finish-reply-requires-clause-settled g c =
    let leads = g.met.S.Value.SerialGate.shows (g.S.Section.seen c.args.pass) c.in-Ok.state c.in-Ok.ensures.fresh in
    c.requires.settled ∙ ap (λ (t : TermsParts). outcome_of t.plan c.args.job.claim c.args.job.acc) (sym leads.terms)
