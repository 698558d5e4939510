use Rattle.std.proofs.Common.{◌≡◌, ◌+◌, ◌-◌, ◌++◌, filter, map}
use Rattle.std.specs.List.{range_with_len}
use Rattle.cutplan.specs.Masks.{has_rule}
use Rattle.cutplan.proofs.overlap.push_pairs.Given as goal

abbrev pub invariant-seconds : goal.invariant-seconds
invariant-seconds l = l.found.items ≡ l.fn.found.items ++ filter (λ pair. has_rule l.others (pair.1 - 1)) (map (λ second. (l.first + 1, second)) (range_with_len (l.first + 1 + 1) (l.second - (l.first + 1))))
