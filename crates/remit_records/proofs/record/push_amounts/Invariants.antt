use Rattle.std.proofs.Common.{map, take}
use Rattle.fixpoint.specs.Money.{money_text}
use Rattle.remit_records.specs.Amounts.{amount_of}
use Rattle.remit_records.specs.Fields.{Pushes}
use Rattle.remit_records.proofs.record.push_amounts.Given as goal

-- the fields so far are appended to the record
abbrev pub invariant-loop-amount : goal.invariant-loop-amount
invariant-loop-amount l = Pushes l.initial.line l.line (map (λ amount. money_text (amount_of amount l.decision)) (take l.amount-index l.amounts))
