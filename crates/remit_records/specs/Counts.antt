-- The counts of the records of a run by their status, file by file.
use Rattle.std.specs.Prelude.{◌≡◌, ◌<◌, ◌+◌, ◌-◌, ◌^◌, ℕ, suc, pos, List, [], get_or, length, map, min, fold, Option, Some, None}
use Rattle.tables.specs.declared.table.InputData.{InputData}
use Rattle.settlement.specs.declared.outcome.Outcome.{Outcome}
use Rattle.settlement.specs.declared.outcome.Verdict.{Verdict}
use Rattle.settlement.specs.declared.outcome.Verdict.TheVariants as verdicts
use Rattle.intake_csv.specs.Rows.{RowsLeft}
use Rattle.intake_csv.specs.declared.rows.Row.{Row}
use Rattle.intake_csv.specs.declared.rows.Row.TheVariants.{Good, Bad}
use Rattle.journal.specs.declared.event.Event.{Event}
use Rattle.claim_gate.specs.Terms.{TermsParts}
use Rattle.remit_records.specs.Amounts.{amount_of}
use Rattle.remit_records.specs.Decided.{paid_outcomes, sum_of}
use Rattle.remit_records.specs.Records.{Deciding}
use Rattle.remit_records.specs.Report.{reported_by_journal}
use Rattle.remit_records.specs.Rows.{GivesAll, IsRead}
use Rattle.remit_records.specs.declared.counts.RecordCounts.{RecordCounts}
use Rattle.remit_records.specs.declared.counts.RunCounts.{RunCounts}
use Rattle.remit_records.specs.declared.amount.Amount.TheVariants.{Paid}
use Rattle.remit_records.specs.declared.counts.RecordStatus.{RecordStatus}
use Rattle.remit_records.specs.declared.counts.RecordStatus.TheVariants as statuses

-- the status of a claim by its verdict
abbrev pub status_by : Verdict → RecordStatus
status_by verdicts.Paid = statuses.Paid
status_by verdicts.Denied = statuses.Denied
status_by (verdicts.Pended reason) = statuses.Pended

-- the status of a claim by its outcome; a claim without an outcome was not accepted and is late
abbrev pub status_of : Option Outcome → RecordStatus
status_of (Some outcome) = status_by outcome.verdict
status_of None = statuses.Late

-- the status of a row of a provider's file
abbrev pub status_of_row : Deciding → ℕ → Row → RecordStatus
status_of_row by provider (Good number place claim) = status_of (by.decided provider place)
status_of_row by provider (Bad number fault) = statuses.Refused

-- the counts of no records
abbrev pub no_records : RecordCounts
no_records = record { paid = 0; denied = 0; pended = 0; refused = 0; late = 0 }

-- a count plus one, which saturates at 2^64 - 1
abbrev pub one_more : ℕ → ℕ
one_more count = min (count + 1) (2 ^ 64 - 1)

-- the counts after one more record
abbrev pub counted : RecordCounts → RecordStatus → RecordCounts
counted counts statuses.Paid = record counts { paid = one_more counts.paid }
counted counts statuses.Denied = record counts { denied = one_more counts.denied }
counted counts statuses.Pended = record counts { pended = one_more counts.pended }
counted counts statuses.Refused = record counts { refused = one_more counts.refused }
counted counts statuses.Late = record counts { late = one_more counts.late }

-- the counts of the rows of a provider's file
abbrev pub counts_of : Deciding → ℕ → List Row → RecordCounts
counts_of by provider rows = fold counted no_records (map (status_of_row by provider) rows)

-- the counts are those of the remaining rows of a reader
pub record LeftIsCounted (by : Deciding) (provider : ℕ) (left : RowsLeft) (counts : RecordCounts) : Type 0 where
  pub rows : List Row
  pub all : GivesAll left rows
  pub counts_are : counts ≡ counts_of by provider rows

-- the counts are those of the rows of a provider's file with this text
pub record IsCounted (by : Deciding) (provider : ℕ) (names : List InputData) (text : List ℕ) (counts : RecordCounts) : Type 0 where
  pub rows : List Row
  pub read : IsRead names text rows
  pub counts_are : counts ≡ counts_of by provider rows

-- the counts are those of the files with these texts, one for each file and in their order
pub record EachIsCounted (by : Deciding) (names : List InputData) (texts : List (List ℕ)) (counts : List RecordCounts) : Type 0 where
  pub count : length counts ≡ length texts
  pub each : (i : ℕ) → i < length texts → IsCounted by (suc i) names (get_or texts i []) (get_or counts i no_records)

-- the counts are those of the files' records under the decisions of this journal
abbrev pub AreCounted : TermsParts → List Event → List RecordCounts → Type 0
AreCounted parts J counts = EachIsCounted (reported_by_journal parts.plan.version J) parts.plan.names parts.files counts

-- the counts of a run over these terms with this journal, and the total that the plan pays, in units
pub record AreRunCounts (parts : TermsParts) (J : List Event) (counts : RunCounts) : Type 0 where
  pub files : AreCounted parts J (map (λ file. file.counts) counts.files.items)
  pub paid : pos counts.paid ≡ sum_of (amount_of Paid) (paid_outcomes J)
