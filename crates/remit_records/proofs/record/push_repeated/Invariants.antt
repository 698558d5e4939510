use Rattle.std.proofs.Common.{replicate}
use Rattle.remit_records.specs.Fields.{Pushes}
use Rattle.remit_records.proofs.record.push_repeated.Given as goal

-- the field is appended once in each round
abbrev pub invariant-loop : goal.invariant-loop
invariant-loop l = Pushes l.initial.line l.line (replicate l.counter l.field)
