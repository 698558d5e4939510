use Rattle.std.proofs.Common.{◌≡◌}
use Rattle.remarks.proofs.lines.Remarks.add.Given as goal

-- a sentence changes nothing else
abbrev pub invariant-loop-part : goal.invariant-loop-part
invariant-loop-part l = l.self.may_lose_records ≡ l.initial.self.may_lose_records
