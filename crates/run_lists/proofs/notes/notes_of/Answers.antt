use Rattle.std.proofs.Common.{◌≡◌, ap, arith, length}
use Rattle.std.proofs.lemmas.List.{length-map}
use Rattle.run_lists.proofs.NotesWalking.{batch-noted}
use Rattle.run_lists.proofs.notes.notes_of.Goals as goal

pub note_files-requires-clause-all : goal.note_files-requires-clause-all
note_files-requires-clause-all c =
    let size = length-map c.files-providers.result.now (λ f. f.now) in
    let long = ap length c.files-providers.ensures.files in
    omega (arith, size, long)

pub note_files-requires-clause-empty : goal.note_files-requires-clause-empty
note_files-requires-clause-empty c = c.new-notes.ensures.items

pub returns : goal.returns
returns c =
    let size = length-map c.files-providers.result.now (λ f. f.now) in
    let long = ap length c.files-providers.ensures.files in
    let as_many : length c.files-providers.result.now ≡ length c.args.terms.now.files = omega (arith, size, long) in
    batch-noted c.args.terms.now c.args.batch.now.terms c.journal-journal.result.now c.args.batch.now.journal (length c.files-providers.result.now) c.in_ok-decisions.decisions
    c.note_files.new.notes.items c.requires.same_terms c.journal-journal.ensures.finished c.journal-journal.ensures.journal c.in_ok-decisions.ensures as_many
    c.in_ok-note_files.ensures
