use Rattle.std.proofs.Common.{◌≤◌, ◌-◌, length}
use Rattle.remarks.specs.Scans.{IsScanned}
use Rattle.remarks.proofs.scan.scan_of.Given as goal

abbrev pub invariant-bytes : goal.invariant-bytes
invariant-bytes l = (l.at ≤ length l.text) × IsScanned l.text l.at l.scan

-- the number of bytes that are not read
abbrev pub decreases-bytes : goal.decreases-bytes
decreases-bytes l = length l.text - l.at
