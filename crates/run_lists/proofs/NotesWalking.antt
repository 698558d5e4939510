-- The rows of files, whose notes are appended one after another.
use Rattle.std.proofs.Common.{◌≡◌, ◌<◌, ◌≤◌, ◌+◌, ◌-◌, ℕ, suc, List, [], ◌∷◌, ◌++◌, length, take, get_or, Option, refl, sym, ap, ap₂, ◌∙◌, subst, append_assoc, append-nil, arith}
use Rattle.std.proofs.lemmas.Grind.{flat_map-append}
use Rattle.std.proofs.lemmas.List.{length-take-le, take_all}
use Rattle.std.proofs.lemmas.Slice.Zip.{AllZip-long}
use Rattle.settlement.specs.declared.outcome.Outcome.{Outcome}
use Rattle.intake_csv.specs.Laws.{GivenRowIsTheFirst, NoRecordsNoRows, LieApart, StartHasTheRows}
use Rattle.intake_csv.specs.Rows.{AreRowsLeft, AreRowsOf, GivesRow, IsAtStart, RowsLeft}
use Rattle.intake_csv.specs.declared.rows.Row.{Row}
use Rattle.intake_csv.specs.declared.rows.Row.TheVariants.{Good, Bad}
use Rattle.journal.specs.declared.event.Event.{Event}
use Rattle.claim_gate.specs.Terms.{IsFinishedOver, TermsParts}
use Rattle.remit_records.specs.Decided.{decided_as}
use Rattle.remit_records.specs.Looked.{LaidOut, found_of, looked_up}
use Rattle.remit_records.specs.Records.{Deciding}
use Rattle.remit_records.specs.Rows.{AreRead}
use Rattle.remit_records.specs.declared.decisions.Decisions.{Decisions}
use Rattle.remit_records.proofs.Filing.{none-read, read-all, read-next}
use Rattle.remit_records.proofs.Looking.{looked-right}
use Rattle.remit_records.proofs.Passing.{Passed, passed-all, passed-next, passed-none}
use Rattle.remit_records.proofs.Reporting.{are-terms, reported, terms-by}
use Rattle.run_lists.specs.Notes.{AreNotes, AreNotesBy, FileIsNoted, LeftIsNoted, file_notes, files_notes, outcome_notes, row_notes}
use Rattle.run_lists.specs.declared.notes.Note.{Note}

file-push : (by : Deciding) (provider : ℕ) (front : List Row) (row : Row) → file_notes by provider (front ++ row ∷ []) ≡ file_notes by provider front ++ row_notes by provider row
file-push by provider front row =
    flat_map-append (row_notes by provider) front (row ∷ []) ∙ ap (λ ns. file_notes by provider front ++ ns) (append-nil (row_notes by provider row))

-- the notes of the rows that a reader has returned since its start are appended
pub record NotedSoFar (by : Deciding) (provider : ℕ) (start now : RowsLeft) (old new : List Note) : Type 0 where
  pub given : List Row
  pub passed : Passed start now given
  pub notes_are : new ≡ old ++ file_notes by provider given

pub noted-none : (by : Deciding) (provider : ℕ) (start : RowsLeft) (old : List Note) → NotedSoFar by provider start start old old
noted-none by provider start old = record { given = []; passed = passed-none start; notes_are = sym (append-nil old) }

pub noted-next : GivenRowIsTheFirst → (by : Deciding) (provider : ℕ) (start now next : RowsLeft) (row : Row) (old between new : List Note)
    → NotedSoFar by provider start now old between → GivesRow now next row → ((rest : List Row) → AreRowsLeft next rest → AreRowsLeft now (row ∷ rest))
    → new ≡ between ++ row_notes by provider row → NotedSoFar by provider start next old new
noted-next first by provider start now next row old between new so_far gives head more = record {
  given = so_far.given ++ row ∷ [];
  passed = passed-next first start now next so_far.given row so_far.passed gives head;
  notes_are =
      more ∙ ap (λ ns. ns ++ row_notes by provider row) so_far.notes_are
      ∙ append_assoc old (file_notes by provider so_far.given) (row_notes by provider row)
      ∙ ap (λ ns. old ++ ns) (sym (file-push by provider so_far.given row));
}

pub noted-done : NoRecordsNoRows → (by : Deciding) (provider : ℕ) (start now : RowsLeft) (old new : List Note) → NotedSoFar by provider start now old new → now.records ≡ []
    → AreRowsLeft now [] → LeftIsNoted by provider start old new
noted-done none by provider start now old new so_far empty left = record {
  rows = so_far.given;
  all = passed-all none start now so_far.given so_far.passed empty left;
  notes_are = so_far.notes_are;
}

-- the remaining rows of a new reader are those of the text
pub noted-text : StartHasTheRows → (parts : TermsParts) (by : Deciding) (provider : ℕ) (text : List ℕ) (start : RowsLeft) (old new : List Note)
    → LieApart start.layout.columns → IsAtStart parts.plan.names text start → ((all : List Row) → AreRowsLeft start all → AreRowsOf parts.plan.names text all)
    → LeftIsNoted by provider start old new → FileIsNoted parts by provider text old new
noted-text begins parts by provider text start old new apart at_start of_text left = record {
  rows = left.rows;
  read = read-all begins parts.plan.names text start left.rows apart at_start of_text left.all;
  notes_are = left.notes_are;
}

files-push : (by : Deciding) (provider : ℕ) (files : List (List Row)) (rows : List Row)
    → files_notes by provider (files ++ rows ∷ []) ≡ files_notes by provider files ++ file_notes by (provider + length files) rows
files-push by provider [] rows =
    let here : provider + 0 ≡ provider = omega arith in
    append-nil (file_notes by provider rows) ∙ ap (λ p. file_notes by p rows) (sym here)
files-push by provider (first ∷ files) rows =
    let next : suc provider + length files ≡ provider + suc (length files) = omega arith in
    ap (λ ns. file_notes by provider first ++ ns) (files-push by (suc provider) files rows)
    ∙ sym (append_assoc (file_notes by provider first) (files_notes by (suc provider) files) (file_notes by (suc provider + length files) rows))
    ∙ ap (λ p. (file_notes by provider first ++ files_notes by (suc provider) files) ++ file_notes by p rows) next

-- the notes are those of the files before an index
pub record FilesNoted (parts : TermsParts) (by : Deciding) (place : ℕ) (notes : List Note) : Type 0 where
  pub files : List (List Row)
  pub read : AreRead parts.plan.names (take place parts.files) files
  pub notes_are : notes ≡ files_notes by 1 files

pub files-none : (parts : TermsParts) (by : Deciding) (notes : List Note) → notes ≡ [] → FilesNoted parts by 0 notes
files-none parts by notes empty = record { files = []; read = none-read parts.plan.names; notes_are = empty }

pub files-next : (parts : TermsParts) (by : Deciding) (place : ℕ) (old new : List Note) → place < length parts.files → FilesNoted parts by place old
    → FileIsNoted parts by (place + 1) (get_or parts.files ((place + 1) - 1) []) old new → FilesNoted parts by (place + 1) new
files-next parts by place old new within so_far next =
    let texts = parts.files in
    let here : (place + 1) - 1 ≡ place = omega arith in
    let taken : length (take place texts) ≡ place = length-take-le place texts (omega (arith, within)) in
    let long : length so_far.files ≡ length (take place texts) = AllZip-long (AreRowsOf parts.plan.names) (take place texts) so_far.files so_far.read.are_rows in
    let number : 1 + length so_far.files ≡ place + 1 = omega (arith, taken, long) in
    let read = subst (λ i. FileIsNoted parts by (place + 1) (get_or texts i []) old new) here next in
    record {
      files = so_far.files ++ read.rows ∷ [];
      read = read-next parts.plan.names texts place [] so_far.files read.rows within so_far.read read.read;
      notes_are =
          read.notes_are ∙ ap (λ ns. ns ++ file_notes by (place + 1) read.rows) so_far.notes_are
          ∙ sym (files-push by 1 so_far.files read.rows ∙ ap (λ p. files_notes by 1 so_far.files ++ file_notes by p read.rows) number);
    }

pub files-all : (parts : TermsParts) (by : Deciding) (place : ℕ) (notes : List Note) → place ≡ length parts.files → FilesNoted parts by place notes → AreNotesBy parts by notes
files-all parts by place notes all so_far =
    let whole : take place parts.files ≡ parts.files = ap (λ n. take n parts.files) all ∙ take_all (length parts.files) parts.files (omega arith) in
    record { files = so_far.files; read = subst (λ ts. AreRead parts.plan.names ts so_far.files) whole so_far.read; notes_are = so_far.notes_are }

-- equal decisions give equal notes
row-same : (version : ℕ) (f g : ℕ → ℕ → Option Outcome) (provider : ℕ) (row : Row) → ((place : ℕ) → f provider place ≡ g provider place)
    → row_notes (reported version f) provider row ≡ row_notes (reported version g) provider row
row-same version f g provider (Good number place claim) same = ap (outcome_notes provider number) (same place)
row-same version f g provider (Bad number fault) same = refl

rows-same : (version : ℕ) (f g : ℕ → ℕ → Option Outcome) (provider : ℕ) (rows : List Row) → ((place : ℕ) → f provider place ≡ g provider place)
    → file_notes (reported version f) provider rows ≡ file_notes (reported version g) provider rows
rows-same version f g provider [] same = refl
rows-same version f g provider (row ∷ rows) same = ap₂ (λ front following. front ++ following) (row-same version f g provider row same) (rows-same version f g provider rows same)

files-same : (version : ℕ) (f g : ℕ → ℕ → Option Outcome) (first : ℕ) (files : List (List Row))
    → ((provider place : ℕ) → first ≤ provider → provider < first + length files → f provider place ≡ g provider place)
    → files_notes (reported version f) first files ≡ files_notes (reported version g) first files
files-same version f g first [] same = refl
files-same version f g first (rows ∷ files) same =
    ap₂ (λ front following. front ++ following) (rows-same version f g first rows (λ place. same first place (omega arith) (omega arith)))
    (files-same version f g (suc first) files (λ provider place least most. same provider place (omega (arith, least)) (omega (arith, most))))

-- the notes by the index of decisions are those of the journal
notes-alike : (parts : TermsParts) (J : List Event) (providers : ℕ) (decisions : Decisions) (notes : List Note) → IsFinishedOver parts J
    → LaidOut parts.plan.version providers J decisions → providers ≡ length parts.files → AreNotesBy parts (looked_up decisions) notes → AreNotes parts J notes
notes-alike parts J providers decisions notes finished laid as_many noted =
    let journal = finished (terms-by parts noted.files) (are-terms parts noted.files noted.read.are_rows) in
    let long = AllZip-long (AreRowsOf parts.plan.names) parts.files noted.files noted.read.are_rows in
    record {
      files = noted.files;
      read = noted.read;
      notes_are =
          noted.notes_are ∙ ap (λ version. files_notes (reported version (found_of decisions)) 1 noted.files) laid.version_is
          ∙ files-same parts.plan.version (found_of decisions) (decided_as J) 1 noted.files
          (λ provider place least most.
          let known : provider ≤ providers = omega (arith, most, long, as_many) in
          looked-right parts.plan.version providers J decisions laid journal.lawful.sound.in_order provider place least known);
    }

-- the notes of a run, whose journal is that of its batch
pub batch-noted : (parts other : TermsParts) (J K : List Event) (providers : ℕ) (decisions : Decisions) (notes : List Note) → other ≡ parts → IsFinishedOver other K → J ≡ K
    → LaidOut parts.plan.version providers J decisions → providers ≡ length parts.files → AreNotesBy parts (looked_up decisions) notes → AreNotes parts K notes
batch-noted parts other J K providers decisions notes same finished alike laid as_many noted =
    let over : IsFinishedOver parts J = subst (λ p. IsFinishedOver p J) same (subst (IsFinishedOver other) (sym alike) finished) in
    subst (λ L. AreNotes parts L notes) alike (notes-alike parts J providers decisions notes over laid as_many noted)
