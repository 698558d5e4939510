use Rattle.std.proofs.Common.{Bor, List, ℕ, [], map, ap, ◌∙◌, arith}
use Rattle.std.proofs.lemmas.Grind.{common_steps}
use Rattle.std.proofs.lemmas.Result.{IfOk-weaker}
use Rattle.plan_rows.proofs.RowTexts.{whole_text}
use Rattle.plan_rows.proofs.valued_rows.text_of_columns.Goals as goal

pub returns : goal.returns
returns c =
    let front = c.in_ok-write_header.ensures [] c.sheet_writer-writer.ensures in
    let names = ap (map (λ (n : Bor (List ℕ)). n.now)) c.as_slice-2.ensures.value ∙ rw c.tables.ensures.tables at c.in_ok-names.ensures in
    IfOk-weaker c.into_text.result _ _
    (λ text is rows left. whole_text c.args.plan.now _ _ rows _ _ _ names (rw c.in_ok-compiled.ensures at (c.in_ok-write_rows.ensures rows _ left front)) is)
    c.into_text.ensures

pub write_rows-requires-clause-apart : goal.write_rows-requires-clause-apart
write_rows-requires-clause-apart c = grind (arith, common_steps)

pub write_rows-requires-clause-sound : goal.write_rows-requires-clause-sound
write_rows-requires-clause-sound c = grind (arith, common_steps)

pub write_rows-requires-clause-placed : goal.write_rows-requires-clause-placed
write_rows-requires-clause-placed c = grind (arith, common_steps)
