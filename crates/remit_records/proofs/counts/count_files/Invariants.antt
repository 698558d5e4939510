use Rattle.std.proofs.Common.{map}
use Rattle.remit_records.specs.Looked.{looked_up}
use Rattle.remit_records.proofs.Counting.{FilesCounted}
use Rattle.remit_records.proofs.counts.count_files.Given as goal

-- the files so far are counted
abbrev pub invariant-loop-place : goal.invariant-loop-place
invariant-loop-place l = FilesCounted (looked_up l.decisions) l.terms.plan.names l.terms.files l.place (map (λ file. file.counts) l.files.items)
