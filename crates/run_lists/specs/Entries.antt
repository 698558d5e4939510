-- The entries of closing balances, and their order.
use Rattle.std.specs.Prelude.{List, map, string_bytes}
use Rattle.std.specs.Cmp.Lexicographic.{slice_cmp}
use Rattle.std.specs.List.Sorted.{IsStrictlySortedBy}
use Rattle.std.specs.Map.{keys_of}
use Rattle.std.specs.Ordering.{nat_cmp, ordering_then}
use Rattle.std.specs.declared.cmp.Ordering.{Ordering}
use Rattle.settlement.specs.Accounts.{Account}
use Rattle.settlement.specs.declared.account.Balance.{Balance}
use Rattle.intake_csv.specs.Balances.{Entry}
use Rattle.run_lists.specs.declared.closing.account_key.AccountKey.{AccountKey}
use Rattle.run_lists.specs.declared.closing.accounts.ClosingBalances.{ClosingBalances}

-- the order of accounts: by benefit year, then by family, then by member; names are compared byte
-- by byte
abbrev pub account_cmp : Account → Account → Ordering
account_cmp a b =
    ordering_then (nat_cmp a.year b.year) (ordering_then (slice_cmp nat_cmp a.family b.family) (slice_cmp nat_cmp a.member b.member))

-- the accounts of the entries increase, so that none occurs twice
abbrev pub AreSorted : List Entry → Type 0
AreSorted entries = IsStrictlySortedBy account_cmp (keys_of entries)

-- the account of a key
abbrev pub account_of_key : AccountKey → Account
account_of_key key = record { family = string_bytes key.family; member = string_bytes key.member; year = key.year }

-- the order of keys is that of their accounts
abbrev pub key_cmp : AccountKey → AccountKey → Ordering
key_cmp a b = account_cmp (account_of_key a) (account_of_key b)

-- the account and the balance of a key in a map
abbrev pub entry_of_key : AccountKey × Balance → Entry
entry_of_key held = (account_of_key held.0, held.1)

-- the entries of closing balances, in order
abbrev pub entries_of : ClosingBalances → List Entry
entries_of closing = map entry_of_key closing.accounts.entries
