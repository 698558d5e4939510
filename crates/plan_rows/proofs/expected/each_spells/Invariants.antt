use Rattle.std.proofs.Common.{map, take}
use Rattle.std.specs.List.{AllByRecursion}
use Rattle.plan_rows.specs.Expected.{SpellsSome}
use Rattle.plan_rows.proofs.expected.each_spells.Given as goal

-- the texts so far denote values of the kind
abbrev pub invariant-loop-place : goal.invariant-loop-place
invariant-loop-place l = AllByRecursion (SpellsSome l.kind) (take l.place (map (λ t. t.now) l.texts))
