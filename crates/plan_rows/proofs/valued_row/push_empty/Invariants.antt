use Rattle.std.proofs.Common.{◌≡◌, ◌++◌, [], replicate}
use Rattle.plan_rows.proofs.valued_row.push_empty.Given as goal

-- an empty field in each round
abbrev pub invariant-loop : goal.invariant-loop
invariant-loop l = l.line ≡ l.fn.line ++ replicate l.counter []
