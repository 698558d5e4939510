use Rattle.std.proofs.Common.{◌≡◌, ◌++◌, map, take}
use Rattle.plan_rows.specs.Placed.{placed_text}
use Rattle.plan_rows.proofs.valued_row.push_answers.Given as goal

-- the texts of the answers so far
abbrev pub invariant-loop-place : goal.invariant-loop-place
invariant-loop-place l = l.line ≡ l.fn.line ++ map (placed_text l.values.answers) (take l.place-index l.places)
