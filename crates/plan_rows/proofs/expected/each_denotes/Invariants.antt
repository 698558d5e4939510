use Rattle.std.proofs.Common.{map, take}
use Rattle.std.specs.List.{AllZip}
use Rattle.plan_rows.specs.Expected.{Denotes}
use Rattle.plan_rows.proofs.expected.each_denotes.Given as goal

-- the texts so far denote the values so far
abbrev pub invariant-loop-place : goal.invariant-loop-place
invariant-loop-place l = AllZip Denotes (take l.place (map (λ t. t.now) l.texts)) (take l.place l.values)
