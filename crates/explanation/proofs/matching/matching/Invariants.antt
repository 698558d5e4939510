use Rattle.std.proofs.Common.{◌≡◌, filter}
use Rattle.std.specs.List.{range_with_len}
use Rattle.tables.specs.Matching.{rule_matches}
use Rattle.explanation.proofs.matching.matching.Given as goal

abbrev pub invariant-loop-place : goal.invariant-loop-place
invariant-loop-place l = l.found ≡ filter (rule_matches l.given l.earlier l.table) (range_with_len 0 l.place)
