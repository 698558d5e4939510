use Rattle.std.proofs.Common.{[], ◌-◌, get_or}
use Rattle.explanation.specs.Walking.{IsPast}
use Rattle.explanation.proofs.row.find_row.Given as goal

-- the reader is past the records so far
abbrev pub invariant-loop : goal.invariant-loop
invariant-loop l = IsPast l.terms.plan.names (get_or l.terms.files (l.fn.place.provider - 1) []) l.counter l.rows
