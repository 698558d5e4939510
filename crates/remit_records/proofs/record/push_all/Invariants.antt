use Rattle.std.proofs.Common.{take}
use Rattle.claim_gate.specs.Terms.{texts_of}
use Rattle.remit_records.specs.Fields.{Pushes}
use Rattle.remit_records.proofs.record.push_all.Given as goal

-- the fields so far are appended to the record
abbrev pub invariant-loop-field : goal.invariant-loop-field
invariant-loop-field l = Pushes l.initial.line l.line (texts_of (take l.field-index l.fields))
