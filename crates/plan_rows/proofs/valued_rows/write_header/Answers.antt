use Rattle.std.proofs.Common.{◌++◌, subst}
use Rattle.std.proofs.lemmas.Result.{on_ok_weaker}
use Rattle.plan_rows.specs.Sheet.{HasText, record_text}
use Rattle.plan_rows.proofs.RowTexts.{header_line}
use Rattle.plan_rows.proofs.valued_rows.write_header.Goals as goal

pub returns : goal.returns
returns c =
    let last = rw c.as_bytes.ensures.value at c.in_ok-push.ensures in
    let line = header_line _ _ _ _ _ _ _ c.new-line.ensures c.in_ok-push_fields.ensures c.in_ok-push_texts.ensures last in
    on_ok_weaker c.write_line.result (λ writes text has. subst (λ l. HasText c.write_line.new.writer (text ++ record_text l)) line (writes text has)) c.write_line.ensures
