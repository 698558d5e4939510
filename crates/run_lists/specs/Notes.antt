-- The records of a run that need a person: claims that are pended, and records that are refused.
use Rattle.std.specs.Prelude.{◌≡◌, ℕ, suc, List, [], ◌∷◌, ◌++◌, flat_map, Option, Some, None}
use Rattle.intake_csv.specs.Rows.{RowsLeft}
use Rattle.intake_csv.specs.declared.rows.Row.{Row}
use Rattle.intake_csv.specs.declared.rows.Row.TheVariants.{Good, Bad}
use Rattle.journal.specs.declared.event.Event.{Event}
use Rattle.settlement.specs.declared.outcome.Outcome.{Outcome}
use Rattle.settlement.specs.declared.outcome.Verdict.{Verdict}
use Rattle.settlement.specs.declared.outcome.Verdict.TheVariants as verdicts
use Rattle.claim_gate.specs.Terms.{TermsParts}
use Rattle.remit_records.specs.Records.{Deciding}
use Rattle.remit_records.specs.Report.{reported_by_journal}
use Rattle.remit_records.specs.Rows.{AreRead, GivesAll, IsRead}
use Rattle.run_lists.specs.declared.notes.Note.{Note}
use Rattle.run_lists.specs.declared.notes.NoteCause.TheVariants as causes

-- the note of a claim with this verdict: a claim that is paid or denied needs nobody
abbrev pub verdict_notes : ℕ → ℕ → Verdict → List Note
verdict_notes provider number verdicts.Paid = []
verdict_notes provider number verdicts.Denied = []
verdict_notes provider number (verdicts.Pended reason) = record { provider = provider; number = number; cause = causes.Pended reason } ∷ []

-- the note of a claim with this outcome: a claim without one is late, and needs nobody
abbrev pub outcome_notes : ℕ → ℕ → Option Outcome → List Note
outcome_notes provider number None = []
outcome_notes provider number (Some outcome) = verdict_notes provider number outcome.verdict

-- the note of a row of a provider's file
abbrev pub row_notes : Deciding → ℕ → Row → List Note
row_notes by provider (Good number place claim) = outcome_notes provider number (by.decided provider place)
row_notes by provider (Bad number fault) = record { provider = provider; number = number; cause = causes.Refused fault } ∷ []

-- the notes of the rows of a provider's file, in their order
abbrev pub file_notes : Deciding → ℕ → List Row → List Note
file_notes by provider rows = flat_map (row_notes by provider) rows

-- the notes of the rows of the providers' files, in the order of the files, the first of which is this provider's
abbrev pub files_notes : Deciding → ℕ → List (List Row) → List Note
files_notes by provider [] = []
files_notes by provider (rows ∷ rest) = file_notes by provider rows ++ files_notes by (suc provider) rest

-- the notes of the remaining rows of a reader are appended
pub record LeftIsNoted (by : Deciding) (provider : ℕ) (left : RowsLeft) (old new : List Note) : Type 0 where
  pub rows : List Row
  pub all : GivesAll left rows
  pub notes_are : new ≡ old ++ file_notes by provider rows

-- the notes of the rows of a provider's file with this text are appended
pub record FileIsNoted (parts : TermsParts) (by : Deciding) (provider : ℕ) (text : List ℕ) (old new : List Note) : Type 0 where
  pub rows : List Row
  pub read : IsRead parts.plan.names text rows
  pub notes_are : new ≡ old ++ file_notes by provider rows

-- these are the notes of all rows of the files under these decisions
pub record AreNotesBy (parts : TermsParts) (by : Deciding) (notes : List Note) : Type 0 where
  pub files : List (List Row)
  pub read : AreRead parts.plan.names parts.files files
  pub notes_are : notes ≡ files_notes by 1 files

-- these are the notes of a run over these terms with this journal: one for each record that is pended or refused, in the order of the remittance
abbrev pub AreNotes : TermsParts → List Event → List Note → Type 0
AreNotes parts J notes = AreNotesBy parts (reported_by_journal parts.plan.version J) notes
