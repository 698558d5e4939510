use Rattle.std.proofs.Common.{◌≡◌, ◌++◌, flat_map, map, string_bytes}
use Rattle.intake_csv.specs.Balances.{accounts_in, book_of, opening_of}
use Rattle.intake_csv.proofs.balances.list_year.Given as goal

-- the entries so far, followed by those of the families that are left
abbrev pub invariant-loop-family : goal.invariant-loop-family
invariant-loop-family l =
    map opening_of l.entries.items ++ flat_map (accounts_in l.year) (map (λ e. (string_bytes e.0, e.1)) l.family-iterator)
    ≡ map opening_of l.initial.entries.items ++ flat_map (accounts_in l.year) (book_of l.families)
