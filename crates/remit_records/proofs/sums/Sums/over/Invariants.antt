use Rattle.std.proofs.Common.{take}
use Rattle.remit_records.specs.Looked.{AreSums}
use Rattle.remit_records.proofs.sums.Sums.over.Given as goal

-- the sums over the events so far
abbrev pub invariant-loop-event : goal.invariant-loop-event
invariant-loop-event l = AreSums (take l.event-index l.journal) l.event-index l.sums
