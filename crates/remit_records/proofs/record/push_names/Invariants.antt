use Rattle.std.proofs.Common.{map, take}
use Rattle.remit_records.specs.Amounts.{name_of}
use Rattle.remit_records.specs.Fields.{Pushes}
use Rattle.remit_records.proofs.record.push_names.Given as goal

-- the fields so far are appended to the record
abbrev pub invariant-loop-amount : goal.invariant-loop-amount
invariant-loop-amount l = Pushes l.initial.line l.line (map name_of (take l.amount-index l.amounts))
