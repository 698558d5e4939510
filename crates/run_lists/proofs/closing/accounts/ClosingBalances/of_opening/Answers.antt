use Rattle.std.proofs.Common.{ap, map}
use Rattle.intake_csv.specs.Balances.{opening_of}
use Rattle.run_lists.specs.Entries.{entries_of, entry_of_key}
use Rattle.run_lists.proofs.Sorted.{opened}
use Rattle.run_lists.proofs.closing.accounts.ClosingBalances.of_opening.Goals as goal

pub returns : goal.returns
returns c =
    opened c.args.terms.now.balances (map opening_of c.in_ok-entries.entries.items) (map entry_of_key c.new.result.entries) (entries_of c.add_all.new.self) c.opening_entries.ensures.once
    c.in_ok-entries.ensures.listed (ap (map entry_of_key) c.new.ensures.empty) (rw c.as_slice.ensures.value at c.in_ok-add_all.ensures)
