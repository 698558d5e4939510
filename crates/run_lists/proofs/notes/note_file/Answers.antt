use Rattle.std.proofs.Common.{◌-◌, [], get_or}
use Rattle.std.proofs.lemmas.Result.{on_ok_weaker}
use Rattle.remit_records.specs.Looked.{looked_up}
use Rattle.run_lists.proofs.NotesWalking.{noted-text}
use Rattle.run_lists.proofs.notes.note_file.Goals as goal

pub returns : goal.returns
returns c =
    on_ok_weaker c.note_rows.result
    (noted-text c.reader_begins_with_all_rows.ensures c.args.terms.now (looked_up c.args.decisions.now) c.args.provider
    (get_or c.args.terms.now.files (c.args.provider - 1) []) c.in_ok-rows.rows _ _ c.in_ok-rows.ensures.apart c.in_ok-rows.ensures.start c.in_ok-rows.ensures.rows)
    c.note_rows.ensures
