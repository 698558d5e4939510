use Rattle.std.proofs.Common.{◌≡◌, ◌+◌, ap, ◌∙◌, rules}
use Rattle.claim_gate.proofs.Sharing.{section_of, went_so, worn_so}
use Rattle.claim_gate.specs.Parts.{at}
use Rattle.claim_gate.proofs.locked.LockedGatePrefetching.prefetch.Goals as goal

pub returns-in-Ok-clause-served : goal.returns-in-Ok-clause-served
returns-in-Ok-clause-served g c =
    let shown = g.S.Value.SerialGate.shown in
    let shows = g.met.S.Value.SerialGate.shows in record {
      own = search rules;
      section = section_of shown g.S.Section.seen g.S.Section.last_found g.S.Section.tally c.args.pass c.leave.result c.in-Ok.state c.prefetch.new.self
          c.leave.ensures.seen (c.leave.ensures.last ∙ c.in-Ok.ensures.found) (shows (g.S.Section.seen c.args.pass) c.in-Ok.state c.in-Ok.ensures.fresh)
          c.journal-lawful.ensures.lawful (shows c.in-Ok.state c.prefetch.new.self c.prefetch.ensures.grown) c.prefetch.ensures.lawful (c.leave.ensures.tally ∙ ap (λ n. n + 1) c.in-Ok.ensures.tally);
    }

pub returns-in-Err-clause-worn : goal.returns-in-Err-clause-worn
returns-in-Err-clause-worn g c =
    worn_so g.S.Value.SerialGate.shown g.S.Section.seen g.S.Section.last_found g.S.Section.tally _ g.S.Section.is_worn c.args.pass c.in-Err.pass c.in-Err.ensures.back c.in-Err.ensures.worn

pub leave-requires-clause-grown : goal.leave-requires-clause-grown
leave-requires-clause-grown g c = rw c.in-Ok.ensures.found c.prefetch.ensures.grown

pub returns-in-Ok-clause-same : goal.returns-in-Ok-clause-same
returns-in-Ok-clause-same g c =
    went_so g.S.Value.SerialGate.shown g.S.Section.seen g.S.Section.last_found g.S.Section.tally c.args.pass c.leave.result c.in-Ok.state c.prefetch.new.self
    c.leave.ensures.seen (c.leave.ensures.last ∙ c.in-Ok.ensures.found) (λ old new. new ≡ old) (λ T is. ap (at T) c.prefetch.ensures.same)
