use Rattle.std.proofs.Common.{map, take}
use Rattle.intake_csv.specs.Balances.{opening_of}
use Rattle.run_lists.specs.Charges.{Posts}
use Rattle.run_lists.specs.Entries.{entries_of}
use Rattle.run_lists.proofs.closing.accounts.ClosingBalances.add_all.Given as goal

-- the entries so far are added
abbrev pub invariant-loop-entry : goal.invariant-loop-entry
invariant-loop-entry l = Posts (map opening_of (take l.entry-index l.entries)) (entries_of l.initial.self) (entries_of l.self)
