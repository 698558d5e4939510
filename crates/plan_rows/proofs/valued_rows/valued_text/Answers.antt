use Rattle.std.proofs.Common.{◌≤◌, length, rules}
use Rattle.std.proofs.lemmas.Result.{IfErr-weaker, IfOk-weaker}
use Rattle.intake_csv.specs.Limits.{file_limit_bytes}
use Rattle.plan_rows.proofs.RowTexts.{refuses_rows}
use Rattle.plan_rows.proofs.valued_rows.valued_text.Goals as goal

pub returns-then-not-branch-clause-refused : goal.returns-then-not-branch-clause-refused
returns-then-not-branch-clause-refused c =
    let read = rw c.if-not-branch.true at c.in_ok-read_record.ensures in
    read _ c.new_reader-reader.ensures

pub returns-clause-text : goal.returns-clause-text
returns-clause-text c =
    let small : length c.args.rows.now ≤ file_limit_bytes = search rules in
    let read = rw c.if-not-branch.false at c.in_ok-read_record.ensures in
    let first = read _ c.new_reader-reader.ensures in
    IfOk-weaker c.text_under.result _ _
    (λ text is. record { small = small; is_text = record { header = _; rows = first.0; split = first.1; is_text = is first.0 first.2 } }) c.text_under.ensures.text

pub returns-clause-refused : goal.returns-clause-refused
returns-clause-refused c =
    let read = rw c.if-not-branch.false at c.in_ok-read_record.ensures in
    let first = read _ c.new_reader-reader.ensures in
    IfErr-weaker c.text_under.result _ _ (λ s refused. refuses_rows _ _ _ first.0 s first.1 refused) c.text_under.ensures.refused
