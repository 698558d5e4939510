use Rattle.std.proofs.Common.{◌≤◌, ◌+◌, take}
use Rattle.diagnostics.specs.Position.{IsAfter}
use Rattle.diagnostics.proofs.position.position_after.Given as goal

abbrev pub invariant-loop-byte : goal.invariant-loop-byte
invariant-loop-byte l = IsAfter (take l.byte-index l.text) (record { line = l.line; column = l.column })
    × (l.line ≤ l.byte-index + 1) × (l.column ≤ l.byte-index + 1)
