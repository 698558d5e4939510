-- The opening accumulators of accounts.
use Rattle.std.specs.Prelude.{ℤ, pos, ◌+ℤ◌, Bool, List, [], ◌∷◌, cond}
use Rattle.settlement.specs.Accounts.{Account, is_family_year, is_same, part}
use Rattle.settlement.specs.Claim.{nothing_yet}
use Rattle.settlement.specs.declared.acc.Acc.{Acc}
use Rattle.settlement.specs.declared.account.Balance.{Balance}

-- the accumulators with one more balance: if it is the account's own, it sets the member's own
-- amounts; if it belongs to the account's family and year, it adds to the family's sums
abbrev pub joins : Bool → Bool → Balance → Acc → Acc
joins own shared balance acc = record {
  met = cond own balance.met acc.met;
  oop = cond own balance.oop acc.oop;
  paid = cond own balance.paid acc.paid;
  fmet = acc.fmet +ℤ part shared balance.met;
  foop = acc.foop +ℤ part shared balance.oop;
}

-- the opening accumulators of an account: its own amounts are those of its balance, or zero without
-- one, and the family's sums are over the balances of the same family and year
abbrev pub opening : List (Account × Balance) → Account → Acc
opening [] account = nothing_yet
opening (entry ∷ rest) account = joins (is_same entry.0 account) (is_family_year entry.0 account) entry.1 (opening rest account)

-- the balance whose amounts are all zero
abbrev pub no_balance : Balance
no_balance = record { met = pos 0; oop = pos 0; paid = pos 0 }

-- the opening accumulators of an account with this balance, in a family with these sums
abbrev pub begun_beside : ℤ → ℤ → Balance → Acc
begun_beside fmet foop balance = record { met = balance.met; oop = balance.oop; paid = balance.paid; fmet = fmet; foop = foop }
