use Rattle.std.proofs.Common.{take, flat_map}
use Rattle.fixpoint.specs.Out.{has_failed, writer_of}
use Rattle.check_report.specs.CheckReport.{reported_gap_line}
use Rattle.fixpoint.specs.BufferedOut.{Puts, at}
use Rattle.check_report.proofs.check.text.put_gaps.Given as goal

abbrev pub invariant-loop-place : goal.invariant-loop-place
invariant-loop-place g l =
    let contents = g.W.Write.contents in
    Puts (at (contents (writer_of l.initial.out)) (has_failed l.initial.out) l.initial.pieces) (at (contents (writer_of l.out)) (has_failed l.out) l.pieces) (flat_map (reported_gap_line l.table l.columns) (take l.place-index l.gaps))
