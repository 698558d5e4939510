-- Opening entries, and the rows of files, which are posted one after another.
use Rattle.std.proofs.Common.{◌≡◌, ◌<◌, ◌+◌, ◌-◌, ℕ, suc, List, [], ◌∷◌, ◌++◌, length, map, take, get_or, sym, ap, ◌∙◌, subst, append_assoc, append-nil, arith}
use Rattle.std.proofs.lemmas.Grind.{flat_map-append}
use Rattle.std.proofs.lemmas.List.{length-take-le, map-append, take_all, take_more}
use Rattle.std.proofs.lemmas.Slice.Zip.{AllZip-long}
use Rattle.tables.specs.Plan.{PlanParts}
use Rattle.intake_csv.specs.Balances.{Entry, opening_of}
use Rattle.intake_csv.specs.declared.entry.OpeningEntry.{OpeningEntry}
use Rattle.intake_csv.specs.Laws.{GivenRowIsTheFirst, NoRecordsNoRows, LieApart, StartHasTheRows}
use Rattle.intake_csv.specs.Rows.{AreRowsLeft, AreRowsOf, GivesRow, IsAtStart, RowsLeft}
use Rattle.intake_csv.specs.declared.rows.Row.{Row}
use Rattle.remit_records.specs.Records.{Deciding}
use Rattle.remit_records.specs.Rows.{AreRead}
use Rattle.remit_records.proofs.Filing.{none-read, read-all, read-next}
use Rattle.remit_records.proofs.Passing.{Passed, passed-all, passed-next, passed-none}
use Rattle.run_lists.specs.Charges.{FileIsPosted, FilesArePosted, LeftArePosted, Posts, file_charges, files_charges, row_charges}
use Rattle.run_lists.proofs.Totals.{posts_none, posts_then}

-- one more entry is posted
pub entries-next : (entries : List OpeningEntry) (index : ℕ) (entry : OpeningEntry) (made : Entry) (old between new : List Entry) → index < length entries → entry ≡ get_or entries index entry
    → made ≡ opening_of entry → Posts (map opening_of (take index entries)) old between → Posts (made ∷ []) between new → Posts (map opening_of (take (index + 1) entries)) old new
entries-next entries index entry made old between new within is same so_far next =
    let front = map opening_of (take index entries) in
    let more : map opening_of (take (index + 1) entries) ≡ front ++ made ∷ [] =
    ap (map opening_of) (take_more entries index entry within) ∙ map-append opening_of (take index entries) (get_or entries index entry ∷ [])
    ∙ ap (λ e. front ++ opening_of e ∷ []) (sym is) ∙ ap (λ e. front ++ e ∷ []) (sym same) in
    subst (λ charges. Posts charges old new) (sym more) (posts_then front (made ∷ []) old between new so_far next)

file-push : (plan : PlanParts) (by : Deciding) (provider : ℕ) (front : List Row) (row : Row)
    → file_charges plan by provider (front ++ row ∷ []) ≡ file_charges plan by provider front ++ row_charges plan by provider row
file-push plan by provider front row =
    flat_map-append (row_charges plan by provider) front (row ∷ []) ∙ ap (λ es. file_charges plan by provider front ++ es) (append-nil (row_charges plan by provider row))

-- the rows that a reader has returned since its start are posted
pub record PostedSoFar (plan : PlanParts) (by : Deciding) (provider : ℕ) (start now : RowsLeft) (old new : List Entry) : Type 0 where
  pub given : List Row
  pub passed : Passed start now given
  pub posted : Posts (file_charges plan by provider given) old new

pub posted-none : (plan : PlanParts) (by : Deciding) (provider : ℕ) (start : RowsLeft) (old : List Entry) → PostedSoFar plan by provider start start old old
posted-none plan by provider start old = record { given = []; passed = passed-none start; posted = posts_none old }

pub posted-next : GivenRowIsTheFirst → (plan : PlanParts) (by : Deciding) (provider : ℕ) (start now next : RowsLeft) (row : Row) (old between new : List Entry)
    → PostedSoFar plan by provider start now old between → GivesRow now next row → ((rest : List Row) → AreRowsLeft next rest → AreRowsLeft now (row ∷ rest))
    → Posts (row_charges plan by provider row) between new → PostedSoFar plan by provider start next old new
posted-next first plan by provider start now next row old between new so_far gives head posts = record {
  given = so_far.given ++ row ∷ [];
  passed = passed-next first start now next so_far.given row so_far.passed gives head;
  posted =
      subst (λ charges. Posts charges old new) (sym (file-push plan by provider so_far.given row))
      (posts_then (file_charges plan by provider so_far.given) (row_charges plan by provider row) old between new so_far.posted posts);
}

pub posted-done : NoRecordsNoRows → (plan : PlanParts) (by : Deciding) (provider : ℕ) (start now : RowsLeft) (old new : List Entry)
    → PostedSoFar plan by provider start now old new → now.records ≡ [] → AreRowsLeft now [] → LeftArePosted plan by provider start old new
posted-done none plan by provider start now old new so_far empty left = record {
  rows = so_far.given;
  all = passed-all none start now so_far.given so_far.passed empty left;
  posted = so_far.posted;
}

-- the remaining rows of a new reader are those of the text
pub posted-text : StartHasTheRows → (plan : PlanParts) (by : Deciding) (provider : ℕ) (text : List ℕ) (start : RowsLeft) (old new : List Entry)
    → LieApart start.layout.columns → IsAtStart plan.names text start → ((all : List Row) → AreRowsLeft start all → AreRowsOf plan.names text all)
    → LeftArePosted plan by provider start old new → FileIsPosted plan by provider text old new
posted-text begins plan by provider text start old new apart at_start of_text left = record {
  rows = left.rows;
  read = read-all begins plan.names text start left.rows apart at_start of_text left.all;
  posted = left.posted;
}

files-push : (plan : PlanParts) (by : Deciding) (provider : ℕ) (files : List (List Row)) (rows : List Row)
    → files_charges plan by provider (files ++ rows ∷ []) ≡ files_charges plan by provider files ++ file_charges plan by (provider + length files) rows
files-push plan by provider [] rows =
    let here : provider + 0 ≡ provider = omega arith in
    append-nil (file_charges plan by provider rows) ∙ ap (λ p. file_charges plan by p rows) (sym here)
files-push plan by provider (first ∷ files) rows =
    let next : suc provider + length files ≡ provider + suc (length files) = omega arith in
    ap (λ es. file_charges plan by provider first ++ es) (files-push plan by (suc provider) files rows)
    ∙ sym (append_assoc (file_charges plan by provider first) (files_charges plan by (suc provider) files) (file_charges plan by (suc provider + length files) rows))
    ∙ ap (λ p. (file_charges plan by provider first ++ files_charges plan by (suc provider) files) ++ file_charges plan by p rows) next

-- the files before an index are posted
pub record FilesPosted (plan : PlanParts) (by : Deciding) (texts : List (List ℕ)) (place : ℕ) (old new : List Entry) : Type 0 where
  pub files : List (List Row)
  pub read : AreRead plan.names (take place texts) files
  pub posted : Posts (files_charges plan by 1 files) old new

pub files-none : (plan : PlanParts) (by : Deciding) (texts : List (List ℕ)) (old : List Entry) → FilesPosted plan by texts 0 old old
files-none plan by texts old = record { files = []; read = none-read plan.names; posted = posts_none old }

pub files-next : (plan : PlanParts) (by : Deciding) (texts : List (List ℕ)) (place : ℕ) (old between new : List Entry) → place < length texts
    → FilesPosted plan by texts place old between → FileIsPosted plan by (place + 1) (get_or texts ((place + 1) - 1) []) between new
    → FilesPosted plan by texts (place + 1) old new
files-next plan by texts place old between new within so_far next =
    let here : (place + 1) - 1 ≡ place = omega arith in
    let taken : length (take place texts) ≡ place = length-take-le place texts (omega (arith, within)) in
    let long : length so_far.files ≡ length (take place texts) = AllZip-long (AreRowsOf plan.names) (take place texts) so_far.files so_far.read.are_rows in
    let number : 1 + length so_far.files ≡ place + 1 = omega (arith, taken, long) in
    let read = subst (λ i. FileIsPosted plan by (place + 1) (get_or texts i []) between new) here next in
    record {
      files = so_far.files ++ read.rows ∷ [];
      read = read-next plan.names texts place [] so_far.files read.rows within so_far.read read.read;
      posted =
          subst (λ charges. Posts charges old new)
          (sym (files-push plan by 1 so_far.files read.rows ∙ ap (λ p. files_charges plan by 1 so_far.files ++ file_charges plan by p read.rows) number))
          (posts_then (files_charges plan by 1 so_far.files) (file_charges plan by (place + 1) read.rows) old between new so_far.posted read.posted);
    }

pub files-all : (plan : PlanParts) (by : Deciding) (texts : List (List ℕ)) (place : ℕ) (old new : List Entry) → place ≡ length texts → FilesPosted plan by texts place old new
    → FilesArePosted plan by texts old new
files-all plan by texts place old new all so_far =
    let whole : take place texts ≡ texts = ap (λ n. take n texts) all ∙ take_all (length texts) texts (omega arith) in
    record { files = so_far.files; read = subst (λ ts. AreRead plan.names ts so_far.files) whole so_far.read; posted = so_far.posted }
