-- A run that begins with the closing balances of an earlier one carries on where that run ended.
use Rattle.std.specs.Prelude.{◌≡◌, ◌<◌, ◌+◌, ◌++◌, ℕ, List}
use Rattle.settlement.specs.Accounts.{Account}
use Rattle.settlement.specs.Opening.{opening}
use Rattle.intake_csv.specs.Balances.{Entry}
use Rattle.journal.specs.Terms.{Terms}
use Rattle.journal.specs.Events.{accepted_count, claims}
use Rattle.journal.specs.Lawful.{Finished}
use Rattle.journal.specs.declared.event.Event.{Event}
use Rattle.remit_records.specs.Decided.{decision_at}
use Rattle.run_lists.specs.Closing.{ClosesAt}

-- a journal under the terms of a run
pub record Run : Type 0 where
  pub terms : Terms
  pub journal : List Event

-- the two runs are the parts of a whole run under one plan: they accept its claims in its order, the
-- first run has its opening balances, and the second one begins with these entries
pub record AreParts (whole first second : Run) (entries : List Entry) : Type 0 where
  pub first_plan : first.terms.plan ≡ whole.terms.plan
  pub second_plan : second.terms.plan ≡ whole.terms.plan
  pub accepted : claims whole.terms whole.journal ≡ claims first.terms first.journal ++ claims second.terms second.journal
  pub opened : (account : Account) → opening first.terms.balances account ≡ opening whole.terms.balances account
  pub carried : (account : Account) → opening second.terms.balances account ≡ opening entries account

-- the second run decides each claim as the whole run does
abbrev pub DecidesAlike : Run → Run → Run → Type 0
DecidesAlike whole first second = (position : ℕ) → position < accepted_count second.journal
    → decision_at second.journal position ≡ decision_at whole.journal (accepted_count first.journal + position)

-- if the second run begins with the closing balances of the first one, it decides each claim as the
-- whole run does
abbrev pub CarriesOn : Type 0
CarriesOn = (whole first second : Run) (entries : List Entry) → AreParts whole first second entries → ClosesAt first.terms first.journal entries
    → Finished whole.terms whole.journal → Finished second.terms second.journal → DecidesAlike whole first second

-- and its own closing balances are those of the whole run
abbrev pub ClosesAlike : Type 0
ClosesAlike = (whole first second : Run) (entries last : List Entry) → AreParts whole first second entries → ClosesAt first.terms first.journal entries
    → ClosesAt second.terms second.journal last → ClosesAt whole.terms whole.journal last
