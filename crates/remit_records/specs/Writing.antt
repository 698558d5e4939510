-- The part of a remittance that a writer has received.
use Rattle.std.specs.Prelude.{◌≡◌, ℕ, List, length, take, Option}
use Rattle.std.specs.Io.KnownBytes.{Appends}
use Rattle.journal.specs.declared.event.Event.{Event}
use Rattle.claim_gate.specs.Terms.{TermsParts}
use Rattle.remit_records.specs.Report.{IsReport}

-- the writer has received the whole remittance of these terms and this journal
pub record WritesReport (parts : TermsParts) (J : List Event) (old new : Option (List ℕ)) : Type 0 where
  pub bytes : List ℕ
  pub is_report : IsReport parts J bytes
  pub appended : Appends old new bytes

-- the writer has received exactly `written` bytes, which are the first bytes of every remittance of these terms and this journal
pub record WritesFront (parts : TermsParts) (J : List Event) (written : ℕ) (old new : Option (List ℕ)) : Type 0 where
  pub bytes : List ℕ
  pub counted : length bytes ≡ written
  pub appended : Appends old new bytes
  pub front : (report : List ℕ) → IsReport parts J report → bytes ≡ take written report
