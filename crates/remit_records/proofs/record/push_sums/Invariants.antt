use Rattle.std.proofs.Common.{map, take, pos}
use Rattle.fixpoint.specs.Money.{money_text}
use Rattle.remit_records.specs.Fields.{Pushes}
use Rattle.remit_records.proofs.record.push_sums.Given as goal

-- the fields so far are appended to the record
abbrev pub invariant-loop-sum : goal.invariant-loop-sum
invariant-loop-sum l = Pushes l.initial.line l.line (map (λ sum. money_text (pos sum)) (take l.sum-index l.sums))
