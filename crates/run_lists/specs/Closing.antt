-- The closing balances of a run: what each account has met, paid and been paid after the last claim.
use Rattle.std.specs.Prelude.{◌≡◌, List}
use Rattle.settlement.specs.Accounts.{Account}
use Rattle.settlement.specs.Opening.{opening}
use Rattle.intake_csv.specs.Balances.{Entry}
use Rattle.journal.specs.Terms.{Terms}
use Rattle.journal.specs.Events.{accepted_count, before}
use Rattle.journal.specs.declared.event.Event.{Event}
use Rattle.claim_gate.specs.Terms.{ForTerms, TermsParts}
use Rattle.run_lists.specs.Entries.{AreSorted}

-- a run that begins with these entries begins with the accumulators of each account after the last
-- claim that the journal accepts
abbrev pub ClosesAt : Terms → List Event → List Entry → Type 0
ClosesAt T J entries = (account : Account) → opening entries account ≡ before T J (accepted_count J) account

-- these are the closing balances of the terms and a journal, each account once and in order
pub record AreClosing (parts : TermsParts) (J : List Event) (entries : List Entry) : Type 0 where
  pub given : ForTerms parts (λ T. ClosesAt T J entries)
  pub sorted : AreSorted entries
