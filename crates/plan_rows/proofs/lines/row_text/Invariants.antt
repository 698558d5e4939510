use Rattle.std.proofs.Common.{◌≡◌, ◌++◌, ℕ, List, take}
use Rattle.csv.specs.Records.{fields_of}
use Rattle.plan_rows.specs.Lines.{AreFieldTexts, unexpected_line}
use Rattle.plan_rows.proofs.lines.row_text.Given as goal

-- the texts for the fields so far
abbrev pub invariant-loop-place : goal.invariant-loop-place
invariant-loop-place l =
    (lines : List ℕ) × AreFieldTexts l.number l.finding (take l.place l.columns) (take l.place (fields_of l.row)) lines
    × (l.text.items ≡ unexpected_line l.number l.columns (fields_of l.row) l.finding ++ lines)
