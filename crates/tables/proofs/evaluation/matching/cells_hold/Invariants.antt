use Rattle.std.proofs.Common.{◌≡◌, drop}
use Rattle.tables.specs.Matching.{cells_hold}
use Rattle.tables.proofs.evaluation.matching.cells_hold.Given as goal

abbrev pub invariant-loop-place : goal.invariant-loop-place
invariant-loop-place l = cells_hold l.given l.earlier (drop l.place l.inputs) (drop l.place l.cells) ≡ cells_hold l.given l.earlier l.inputs l.cells
