use Rattle.std.proofs.Common.{sym, ◌∙◌, arith}
use Rattle.std.proofs.lemmas.Grind.{common_steps}
use Rattle.std.proofs.lemmas.Bool.{false≢true}
use Rattle.std.proofs.lemmas.Result.{on_ok_weaker}
use Rattle.csv.specs.Records.{fields_of}
use Rattle.plan_rows.proofs.RowRecords.{ends_fields, ends_misfit}
use Rattle.plan_rows.proofs.valued_row.push_end.Goals as goal

pub push_fields_end-requires-clause-width : goal.push_fields_end-requires-clause-width
push_fields_end-requires-clause-width c = c.has_width.ensures.0 c.if-has_width.true

pub returns-then-has_width : goal.returns-then-has_width
returns-then-has_width c =
    on_ok_weaker c.push_fields_end.result
    (ends_fields c.args.plan.now c.args.columns.now (fields_of c.args.row.now) c.args.line.now _ (c.has_width.ensures.0 c.if-has_width.true)) c.push_fields_end.ensures

pub returns : goal.returns
returns c =
    on_ok_weaker c.push_faulty.result
    (ends_misfit c.args.plan.now c.args.columns.now (fields_of c.args.row.now) c.args.line.now _ (λ same. false≢true (sym c.if-has_width.false ∙ c.has_width.ensures.1 same)))
    c.push_faulty.ensures

pub push_fields_end-requires-clause-apart : goal.push_fields_end-requires-clause-apart
push_fields_end-requires-clause-apart c = grind (arith, common_steps)
