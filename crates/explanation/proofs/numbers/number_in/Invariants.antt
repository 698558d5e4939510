use Rattle.std.proofs.Common.{◌-◌, [], get_or, length}
use Rattle.explanation.specs.Walking.{IsReader}
use Rattle.explanation.proofs.numbers.number_in.Given as goal

-- the reader is at one of the file's rows
abbrev pub invariant-records : goal.invariant-records
invariant-records l = IsReader l.terms.plan.names (get_or l.terms.files (l.fn.provider - 1) []) l.rows

-- the number of records that are left
abbrev pub decreases-records : goal.decreases-records
decreases-records l = length l.rows.records
