use Rattle.std.proofs.Common.{arith}
use Rattle.diagnostics.proofs.Counting.{byte_begins, byte_ends_line, byte_goes_on}
use Rattle.diagnostics.proofs.position.position_after.Goals as goal
use Rattle.diagnostics.proofs.position.position_after.Goals.{then-byte-eq10, else-byte-eq10+then-byte, else-byte-eq10+else-byte}

pub loop-byte-preserved : goal.loop-byte-preserved
loop-byte-preserved c =
    let known = c.loop-byte.invariant in
    let within = c.loop-byte-test.true in
    elim c.if-byte-eq10.branch [
      | then-byte-eq10 w ↦ (byte_ends_line _ _ _ _ _ _ known.0 within w.if-byte-eq10.true w.line-is w.column-is, omega (arith, known.1, w.line-is), omega (arith, w.column-is))
      | else-byte-eq10+then-byte w ↦ (byte_begins _ _ _ _ _ _ known.0 within w.if-byte-eq10.false w.if-byte.true w.line-is w.column-is, omega (arith, known.1, w.line-is), omega (arith, known.2, w.column-is))
      | else-byte-eq10+else-byte w ↦ (byte_goes_on _ _ _ _ _ _ known.0 within w.if-byte-eq10.false w.if-byte.false w.line-is w.column-is, omega (arith, known.1, w.line-is), omega (arith, known.2, w.column-is))
    ]
