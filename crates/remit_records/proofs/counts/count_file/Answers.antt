use Rattle.std.proofs.Common.{◌-◌, [], get_or}
use Rattle.std.proofs.lemmas.Result.{IfOk-weaker}
use Rattle.remit_records.specs.Looked.{looked_up}
use Rattle.remit_records.proofs.Counting.{counted-text}
use Rattle.remit_records.proofs.counts.count_file.Goals as goal

pub returns : goal.returns
returns c =
    IfOk-weaker c.count_rows.result _ _
    (λ file left.
    counted-text c.reader_begins_with_all_rows.ensures (looked_up c.args.decisions.now) c.args.provider c.args.terms.now.plan.names
    (get_or c.args.terms.now.files (c.args.provider - 1) []) c.in_ok-rows.rows file.counts c.in_ok-rows.ensures.apart c.in_ok-rows.ensures.start
    c.in_ok-rows.ensures.rows left)
    c.count_rows.ensures
