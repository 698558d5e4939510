use Rattle.std.proofs.Common.{◌∙◌, sym}
use Rattle.std.proofs.lemmas.List.{length-map}
use Rattle.run_lists.specs.Entries.{entry_of_key}
use Rattle.run_lists.proofs.Sorted.{sorted_entries}
use Rattle.run_lists.proofs.closing.accounts.ClosingBalances.len.Goals as goal

pub returns-clause-count : goal.returns-clause-count
returns-clause-count c = c.len.ensures.len ∙ sym (length-map c.args.self.now.accounts.entries entry_of_key)

pub returns-clause-sorted : goal.returns-clause-sorted
returns-clause-sorted c = sorted_entries c.args.self.now.accounts.entries c.len.ensures.ordered
