use Rattle.std.proofs.Common.{drop}
use Rattle.explanation.proofs.Listing.{IsBetween}
use Rattle.explanation.proofs.table.add_tables.Given as goal

-- the tables so far have answers
abbrev pub invariant-loop-table : goal.invariant-loop-table
invariant-loop-table l = IsBetween l.given l.tables l.initial.facts l.facts l.answers (drop l.table-index l.tables)
