use Rattle.std.proofs.Common.{ℕ, List}
use Rattle.intake_csv.specs.Reader.{HasLeft}
use Rattle.intake_csv.specs.Records.{Fields}
use Rattle.plan_rows.specs.Sheet.{HasText}
use Rattle.plan_rows.proofs.RowTexts.{HasWritten}
use Rattle.plan_rows.proofs.valued_rows.write_rows.Given as goal

-- the rows so far are written
abbrev pub invariant-loop : goal.invariant-loop
invariant-loop l =
    (rows : List Fields) (text : List ℕ) → HasLeft l.fn.reader rows → HasText l.fn.writer text → HasWritten l.plan l.columns rows text l.reader l.writer
