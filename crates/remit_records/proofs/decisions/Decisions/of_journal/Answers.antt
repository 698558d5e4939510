use Rattle.remit_records.proofs.decisions.Decisions.of_journal.Goals as goal

pub returns : goal.returns
returns c =
    let J = c.args.journal.now in
    let accepting = c.in_ok-note_accepts.ensures c.args.providers (c.in_ok-notes.ensures J) in
    c.into_decisions.ensures c.args.providers (c.note_decisions.ensures c.args.providers J accepting)
