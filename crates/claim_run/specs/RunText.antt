-- What the command `run` writes: the remittance of one journal.
use Rattle.std.specs.Prelude.{◌≡◌, ℕ, List, Option, length, take}
use Rattle.std.specs.Io.KnownBytes.{Appends}
use Rattle.journal.specs.declared.event.Event.{Event}
use Rattle.journal.specs.Lawful.{Finished}
use Rattle.journal.specs.Terms.{Terms}
use Rattle.claim_gate.specs.Terms.{IsFinishedOver, IsTermsOf, TermsParts, text_in, texts_of}
use Rattle.run_lists.specs.ClosingText.{IsClosingText}
use Rattle.run_lists.specs.Notes.{AreNotes}
use Rattle.orders.specs.RunTexts.{AreTermsOfTexts, RunTexts}
use Rattle.remit_records.specs.Counts.{AreRunCounts}
use Rattle.remit_records.specs.Report.{IsReport}
use Rattle.remit_records.specs.Writing.{WritesReport}
use Rattle.remit_records.specs.declared.counts.RunCounts.{RunCounts}
use Rattle.run_lists.specs.declared.notes.Note.{Note}
use Rattle.claim_run.specs.declared.run.RunInput.{RunInput}

-- the texts that the references in the input of a run point to
abbrev pub run_texts : RunInput → RunTexts
run_texts input = record {
  plan = input.plan.now;
  balances = text_in input.balances;
  files = texts_of input.files.now;
  cutoff = input.cutoff;
}

-- the bytes are a remittance of these terms: that of one journal, which is finished over the terms
pub record IsRemittanceOf (parts : TermsParts) (bytes : List ℕ) : Type 0 where
  pub terms : Terms
  pub are_terms : IsTermsOf parts terms
  pub journal : List Event
  pub finished : Finished terms journal
  pub report : IsReport parts journal bytes

-- the bytes are a remittance of the texts
pub record IsRemittance (texts : RunTexts) (bytes : List ℕ) : Type 0 where
  pub parts : TermsParts
  pub over : AreTermsOfTexts texts parts
  pub is_remittance : IsRemittanceOf parts bytes

-- the writer has received exactly the first `written` bytes of a remittance of these terms: there is one journal, which is finished over
-- the terms, and the bytes are the first ones of every remittance of it. It is not refutable that it has a remittance
pub record WritesRemittanceFront (parts : TermsParts) (old new : Option (List ℕ)) (written : ℕ) : Type 0 where
  pub journal : List Event
  pub finished : IsFinishedOver parts journal
  pub bytes : List ℕ
  pub counted : length bytes ≡ written
  pub appended : Appends old new bytes
  pub front : (report : List ℕ) → IsReport parts journal report → bytes ≡ take written report
  pub is_there : ¬ ((report : List ℕ) → ¬ IsReport parts journal report)

-- the writer has received exactly the first `written` bytes of a remittance of the texts
pub record WritesFrontOver (texts : RunTexts) (old new : Option (List ℕ)) (written : ℕ) : Type 0 where
  pub parts : TermsParts
  pub over : AreTermsOfTexts texts parts
  pub writes : WritesRemittanceFront parts old new written

-- the writer has received the remittance of a journal that is finished over these terms, and the counts are those of this journal
pub record WritesCounted (parts : TermsParts) (old new : Option (List ℕ)) (counts : RunCounts) : Type 0 where
  pub journal : List Event
  pub finished : IsFinishedOver parts journal
  pub report : WritesReport parts journal old new
  pub counted : AreRunCounts parts journal counts

-- the writer has received a remittance of the texts, and the counts are those of its journal
pub record IsCountedRemittance (texts : RunTexts) (old new : Option (List ℕ)) (counts : RunCounts) : Type 0 where
  pub parts : TermsParts
  pub over : AreTermsOfTexts texts parts
  pub writes : WritesCounted parts old new counts

-- the writer has received the remittance of a journal that is finished over these terms, and the bytes are the text of the closing balances
-- of this journal
pub record WritesClosed (parts : TermsParts) (old new : Option (List ℕ)) (closing : List ℕ) : Type 0 where
  pub journal : List Event
  pub finished : IsFinishedOver parts journal
  pub report : WritesReport parts journal old new
  pub closed : IsClosingText parts journal closing

-- the writer has received a remittance of the texts, and the bytes are the text of the closing balances of its journal
pub record IsClosedRemittance (texts : RunTexts) (old new : Option (List ℕ)) (closing : List ℕ) : Type 0 where
  pub parts : TermsParts
  pub over : AreTermsOfTexts texts parts
  pub writes : WritesClosed parts old new closing

-- the writer has received the remittance of a journal that is finished over these terms, and the notes are those of this journal
pub record WritesNoted (parts : TermsParts) (old new : Option (List ℕ)) (notes : List Note) : Type 0 where
  pub journal : List Event
  pub finished : IsFinishedOver parts journal
  pub report : WritesReport parts journal old new
  pub noted : AreNotes parts journal notes

-- the writer has received a remittance of the texts, and the notes are those of its journal
pub record IsNotedRemittance (texts : RunTexts) (old new : Option (List ℕ)) (notes : List Note) : Type 0 where
  pub parts : TermsParts
  pub over : AreTermsOfTexts texts parts
  pub writes : WritesNoted parts old new notes
