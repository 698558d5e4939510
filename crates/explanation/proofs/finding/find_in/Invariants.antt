use Rattle.std.proofs.Common.{◌-◌, [], get_or, length}
use Rattle.explanation.proofs.FoundClaims.{IsSearched}
use Rattle.explanation.proofs.finding.find_in.Given as goal

-- the rows so far are searched
abbrev pub invariant-records : goal.invariant-records
invariant-records l = IsSearched l.terms.plan.names (get_or l.terms.files (l.fn.provider - 1) []) l.id l.fn.provider l.fn.earlier l.found l.rows

-- the number of records that are left
abbrev pub decreases-records : goal.decreases-records
decreases-records l = length l.rows.records
