use Rattle.std.proofs.Common.{sym, ◌∙◌, arith}
use Rattle.dtable.proofs.ReadNames.{has_name_form-rest}
use Rattle.dtable.proofs.reading.names.has_name_form.Goals as goal

pub returns-then-is_name_start : goal.returns-then-is_name_start
returns-then-is_name_start c =
    rw (← c.as_bytes.ensures.value) (has_name_form-rest c.as_bytes.result.now c.are_name_bytes.result (omega arith) (sym c.is_name_start.ensures ∙ c.if-is_name_start.true) c.are_name_bytes.ensures)
