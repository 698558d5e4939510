use Rattle.std.proofs.Common.{take, flat_map}
use Rattle.fixpoint.specs.Out.{has_failed, writer_of}
use Rattle.check_report.specs.CheckText.{overlap_line}
use Rattle.fixpoint.specs.BufferedOut.{Puts, at}
use Rattle.check_report.proofs.check.text.put_overlaps.Given as goal

abbrev pub invariant-loop-rules : goal.invariant-loop-rules
invariant-loop-rules g l =
    let contents = g.W.Write.contents in
    Puts (at (contents (writer_of l.initial.out)) (has_failed l.initial.out) l.initial.pieces) (at (contents (writer_of l.out)) (has_failed l.out) l.pieces) (flat_map (overlap_line l.table) (take l.rules-index l.overlaps))
