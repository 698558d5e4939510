use Rattle.std.proofs.Common.{sym, ◌∙◌, arith}
use Rattle.std.proofs.lemmas.Grind.{common_steps}
use Rattle.std.proofs.lemmas.Bool.{false≢true}
use Rattle.std.proofs.lemmas.Result.{IfOk-weaker}
use Rattle.plan_rows.proofs.Rows.{judged_width}
use Rattle.plan_rows.proofs.judging.judge_row.Goals as goal

pub judge_fields-requires-clause-width : goal.judge_fields-requires-clause-width
judge_fields-requires-clause-width c = c.has_width.ensures.0 c.if-has_width.true

pub returns : goal.returns
returns c =
    IfOk-weaker c.width_row.result _ _
    (λ judged by. judged_width _ _ _ _ judged (λ same. false≢true (sym c.if-has_width.false ∙ c.has_width.ensures.1 same)) by) c.width_row.ensures

pub judge_fields-requires-clause-apart : goal.judge_fields-requires-clause-apart
judge_fields-requires-clause-apart c = grind (arith, common_steps)
