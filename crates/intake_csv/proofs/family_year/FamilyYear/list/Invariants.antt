use Rattle.std.proofs.Common.{◌≡◌, ◌++◌, map}
use Rattle.intake_csv.specs.Balances.{opening_of}
use Rattle.intake_csv.proofs.Listing.{entry_in, named}
use Rattle.intake_csv.proofs.family_year.FamilyYear.list.Given as goal

-- the entries so far, followed by those of the members that are left
abbrev pub invariant-loop-other : goal.invariant-loop-other
invariant-loop-other l =
    map opening_of l.entries.items ++ map (entry_in l.family l.year) (map named l.other-iterator)
    ≡ map opening_of l.initial.entries.items ++ map (entry_in l.family l.year) (map named l.initial.other-iterator)
