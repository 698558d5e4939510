use Rattle.std.proofs.Common.{arith}
use Rattle.std.proofs.lemmas.Grind.{common_steps}
use Rattle.csv.specs.Records.{fields_of}
use Rattle.plan_rows.proofs.RowHeader.{are_of_names}
use Rattle.plan_rows.proofs.valued_rows.text_under.Goals as goal

pub text_of_columns-text-requires-clause-named : goal.text_of_columns-text-requires-clause-named
text_of_columns-text-requires-clause-named c =
    rw c.as_slice.ensures.value (are_of_names c.args.plan.now (fields_of c.args.header.now) _ c.in_ok-columns.ensures.columns.each)

pub text_of_columns-text-requires-clause-apart : goal.text_of_columns-text-requires-clause-apart
text_of_columns-text-requires-clause-apart c = grind (arith, common_steps)

pub returns-clause-text : goal.returns-clause-text
returns-clause-text c = grind (arith, common_steps)
