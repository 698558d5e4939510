use Rattle.std.proofs.Common.{◌≡◌, take, filter}
use Rattle.cutplan.specs.Violations.{overlap_is_error}
use Rattle.check_report.proofs.check.report.violating_pairs.Given as goal

-- the errors among the overlaps so far
abbrev pub invariant-loop-rules : goal.invariant-loop-rules
invariant-loop-rules l = l.found.items ≡ filter (λ rules. overlap_is_error l.plan l.table rules.0 rules.1) (take l.rules-index l.overlaps)
