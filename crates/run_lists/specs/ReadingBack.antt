-- The text of closing balances, read as opening balances, gives the balances back.
use Rattle.std.specs.Prelude.{◌≡◌, ℕ, List}
use Rattle.settlement.specs.Accounts.{Account}
use Rattle.settlement.specs.Opening.{opening}
use Rattle.intake_csv.specs.Balances.{AreBalances, Book, accounts_of}
use Rattle.journal.specs.Events.{accepted_count, before}
use Rattle.journal.specs.declared.event.Event.{Event}
use Rattle.claim_gate.specs.Terms.{ForTerms, TermsParts}
use Rattle.run_lists.specs.ClosingText.{IsClosingText}

-- a run under the same plan that opens with the text of closing balances begins with the
-- accumulators of each account after the last claim
abbrev pub ClosingTextReadsBack : Type 0
ClosingTextReadsBack = (parts : TermsParts) (J : List Event) (text : List ℕ) (balances : List Book) → IsClosingText parts J text → AreBalances parts.plan.version text balances
    → ForTerms parts (λ T. (account : Account) → opening (accounts_of balances) account ≡ before T J (accepted_count J) account)
