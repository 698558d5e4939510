use Rattle.std.proofs.Common.{◌≡◌, ◌-◌, ◌≤◌, length, take}
use Rattle.std.specs.Io.KnownBytes.{Appends}
use Rattle.fixpoint.specs.Out.{writer_of, has_failed}
use Rattle.fixpoint.proofs.whole_write.put_all.Given as goal

-- the writer took this number of bytes of the text and has not failed
abbrev pub invariant-loop-written : goal.invariant-loop-written
invariant-loop-written g l =
    let contents = g.W.Write.contents in
    record {
      within : l.written ≤ length l.text;
      wrote : Appends (contents (writer_of l.initial.out)) (contents (writer_of l.out)) (take l.written l.text);
      failed : has_failed l.out ≡ has_failed l.initial.out;
    }

abbrev pub decreases-loop-written : goal.decreases-loop-written
decreases-loop-written g l = length l.text - l.written
