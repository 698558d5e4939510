use Rattle.std.proofs.Common.{◌≡◌, ◌++◌, drop, map}
use Rattle.intake_csv.specs.Balances.{accounts_from, accounts_of, books_of, opening_of}
use Rattle.intake_csv.proofs.balances.Balances.entries.Given as goal

-- the entries so far, followed by those of the years that are left
abbrev pub invariant-loop-place : goal.invariant-loop-place
invariant-loop-place l =
    map opening_of l.entries.items ++ accounts_from l.place (drop l.place (books_of l.self-inside.years.items)) ≡ accounts_of (books_of l.self-inside.years.items)
