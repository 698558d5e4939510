-- The counts of a file's rows, which a reader returns one by one, and of all files.
use Rattle.std.proofs.Common.{◌≡◌, ◌<◌, ◌≤◌, ◌+◌, ◌-◌, ℕ, suc, pos, List, [], ◌∷◌, ◌++◌, length, map, get_or, fold, Option, ap, ap₂, sym, subst, ◌∙◌, refl, inl, inr, arith}
use Rattle.std.specs.List.{AllZip}
use Rattle.std.proofs.Math.ListN.{get_or-append}
use Rattle.std.proofs.Math.Seq.{get_or-append_seam}
use Rattle.std.proofs.lemmas.Bool.{cases_lt}
use Rattle.std.proofs.lemmas.List.{length_push, map-append}
use Rattle.std.proofs.lemmas.List.Sums.{fold-append}
use Rattle.tables.specs.declared.table.InputData.{InputData}
use Rattle.settlement.specs.declared.outcome.Outcome.{Outcome}
use Rattle.intake_csv.specs.Laws.{GivenRowIsTheFirst, NoRecordsNoRows, LieApart, StartHasTheRows}
use Rattle.intake_csv.specs.Rows.{AreRowsLeft, AreRowsOf, GivesRow, IsAtStart, RowsLeft}
use Rattle.intake_csv.specs.declared.rows.Row.{Row}
use Rattle.intake_csv.specs.declared.rows.Row.TheVariants.{Good, Bad}
use Rattle.journal.specs.declared.event.Event.{Event}
use Rattle.claim_gate.specs.Terms.{IsFinishedOver, TermsParts}
use Rattle.remit_records.specs.Counts.{AreCounted, AreRunCounts, EachIsCounted, IsCounted, LeftIsCounted, counted, counts_of, no_records, status_of, status_of_row}
use Rattle.remit_records.specs.Amounts.{amount_of}
use Rattle.remit_records.specs.Decided.{decided_as, paid_outcomes, sum_of}
use Rattle.remit_records.specs.Looked.{AreSums, LaidOut, found_of, looked_up}
use Rattle.remit_records.specs.Records.{Deciding}
use Rattle.remit_records.specs.declared.amount.Amount.TheVariants.{Paid}
use Rattle.remit_records.specs.declared.counts.FileCounts.{FileCounts}
use Rattle.remit_records.specs.declared.counts.RecordCounts.{RecordCounts}
use Rattle.remit_records.specs.declared.counts.RunCounts.{RunCounts}
use Rattle.remit_records.specs.declared.decisions.Decisions.{Decisions}
use Rattle.remit_records.specs.declared.sums.Sums.{Sums}
use Rattle.remit_records.proofs.Filing.{read-all}
use Rattle.remit_records.proofs.Looking.{looked-right}
use Rattle.remit_records.proofs.Passing.{Passed, passed-all, passed-next, passed-none}
use Rattle.remit_records.proofs.Reporting.{are-terms, terms-by, reported}

counts-push : (by : Deciding) (provider : ℕ) (front : List Row) (row : Row)
    → counts_of by provider (front ++ row ∷ []) ≡ counted (counts_of by provider front) (status_of_row by provider row)
counts-push by provider front row =
    ap (fold counted no_records) (map-append (status_of_row by provider) front (row ∷ []))
    ∙ fold-append counted no_records (map (status_of_row by provider) front) (status_of_row by provider row ∷ [])

-- the rows that a reader has returned since its start are counted
pub record CountedSoFar (by : Deciding) (provider : ℕ) (start now : RowsLeft) (counts : RecordCounts) : Type 0 where
  pub given : List Row
  pub passed : Passed start now given
  pub counts_are : counts ≡ counts_of by provider given

pub counted-none : (by : Deciding) (provider : ℕ) (start : RowsLeft) (counts : RecordCounts) → counts ≡ no_records → CountedSoFar by provider start start counts
counted-none by provider start counts none = record { given = []; passed = passed-none start; counts_are = none }

pub counted-next : GivenRowIsTheFirst → (by : Deciding) (provider : ℕ) (start now next : RowsLeft) (row : Row) (old new : RecordCounts)
    → CountedSoFar by provider start now old → GivesRow now next row → ((rest : List Row) → AreRowsLeft next rest → AreRowsLeft now (row ∷ rest))
    → new ≡ counted old (status_of_row by provider row) → CountedSoFar by provider start next new
counted-next first by provider start now next row old new so_far gives head is = record {
  given = so_far.given ++ row ∷ [];
  passed = passed-next first start now next so_far.given row so_far.passed gives head;
  counts_are = is ∙ ap (λ counts. counted counts (status_of_row by provider row)) so_far.counts_are ∙ sym (counts-push by provider so_far.given row);
}

pub counted-done : NoRecordsNoRows → (by : Deciding) (provider : ℕ) (start now : RowsLeft) (counts : RecordCounts) → CountedSoFar by provider start now counts
    → now.records ≡ [] → AreRowsLeft now [] → LeftIsCounted by provider start counts
counted-done none by provider start now counts so_far empty left = record {
  rows = so_far.given;
  all = passed-all none start now so_far.given so_far.passed empty left;
  counts_are = so_far.counts_are;
}

-- the counts of the remaining rows of a new reader are the counts of the text
pub counted-text : StartHasTheRows → (by : Deciding) (provider : ℕ) (names : List InputData) (text : List ℕ) (start : RowsLeft) (counts : RecordCounts)
    → LieApart start.layout.columns → IsAtStart names text start → ((all : List Row) → AreRowsLeft start all → AreRowsOf names text all)
    → LeftIsCounted by provider start counts → IsCounted by provider names text counts
counted-text begins by provider names text start counts apart at_start of_text left = record {
  rows = left.rows;
  read = read-all begins names text start left.rows apart at_start of_text left.all;
  counts_are = left.counts_are;
}

-- the files before an index are counted
pub record FilesCounted (by : Deciding) (names : List InputData) (texts : List (List ℕ)) (place : ℕ) (counts : List RecordCounts) : Type 0 where
  pub count : length counts ≡ place
  pub each : (i : ℕ) → i < place → IsCounted by (suc i) names (get_or texts i []) (get_or counts i no_records)

pub files-none : (by : Deciding) (names : List InputData) (texts : List (List ℕ)) → FilesCounted by names texts 0 []
files-none by names texts = record { count = refl; each = λ i below. absurd (omega (arith, below)) }

pub files-next : (by : Deciding) (names : List InputData) (texts : List (List ℕ)) (place : ℕ) (files : List FileCounts) (file : FileCounts)
    → FilesCounted by names texts place (map (λ f. f.counts) files) → IsCounted by (place + 1) names (get_or texts ((place + 1) - 1) []) file.counts
    → FilesCounted by names texts (place + 1) (map (λ f. f.counts) (files ++ file ∷ []))
files-next by names texts place files file so_far next =
    let counts = map (λ (f : FileCounts). f.counts) files in
    let pushed : map (λ (f : FileCounts). f.counts) (files ++ file ∷ []) ≡ counts ++ file.counts ∷ [] = map-append (λ f. f.counts) files (file ∷ []) in
    let here : (place + 1) - 1 ≡ place = omega arith in
    let number : place + 1 ≡ suc place = omega arith in
    let last : get_or (counts ++ file.counts ∷ []) place no_records ≡ file.counts =
    ap (λ i. get_or (counts ++ file.counts ∷ []) i no_records) (sym so_far.count) ∙ get_or-append_seam counts file.counts [] no_records in
    let at_last : IsCounted by (suc place) names (get_or texts place []) (get_or (counts ++ file.counts ∷ []) place no_records) =
    subst (λ c. IsCounted by (suc place) names (get_or texts place []) c) (sym last)
    (subst (λ i. IsCounted by (suc place) names (get_or texts i []) file.counts) here
    (subst (λ n. IsCounted by n names (get_or texts ((place + 1) - 1) []) file.counts) number next)) in
    subst (FilesCounted by names texts (place + 1)) (sym pushed)
    (record {
      count = length_push counts file.counts ∙ ap (λ n. n + 1) so_far.count;
      each = λ i below.
          elim (cases_lt i place) [
            | inl before ↦
                subst (λ c. IsCounted by (suc i) names (get_or texts i []) c)
                (sym (get_or-append counts (file.counts ∷ []) no_records i (subst (λ n. i < n) (sym so_far.count) before))) (so_far.each i before)
            | inr past ↦
                let is : place ≡ i = omega (arith, below, past) in
                subst (λ k. IsCounted by (suc k) names (get_or texts k []) (get_or (counts ++ file.counts ∷ []) k no_records)) is at_last
          ];
    })

-- a text has some list of rows
record SomeRows (names : List InputData) (text : List ℕ) : Type 0 where
  pub rows : List Row
  pub are_rows : AreRowsOf names text rows

record SomeFiles (names : List InputData) (texts : List (List ℕ)) : Type 0 where
  pub files : List (List Row)
  pub are_rows : AllZip (AreRowsOf names) texts files

some-files : (names : List InputData) (texts : List (List ℕ)) → ((i : ℕ) → i < length texts → SomeRows names (get_or texts i [])) → SomeFiles names texts
some-files names [] each = record { files = []; are_rows = tt }
some-files names (text ∷ texts) each =
    let here = each 0 (omega arith) in
    let rest = some-files names texts (λ i below. each (suc i) (omega (arith, below))) in
    record { files = here.rows ∷ rest.files; are_rows = (here.are_rows, rest.are_rows) }

status-same : (version : ℕ) (f g : ℕ → ℕ → Option Outcome) (provider : ℕ) (row : Row) → ((place : ℕ) → f provider place ≡ g provider place)
    → status_of_row (reported version f) provider row ≡ status_of_row (reported version g) provider row
status-same version f g provider (Good number place claim) same = ap status_of (same place)
status-same version f g provider (Bad number fault) same = refl

statuses-same : (version : ℕ) (f g : ℕ → ℕ → Option Outcome) (provider : ℕ) (rows : List Row) → ((place : ℕ) → f provider place ≡ g provider place)
    → map (status_of_row (reported version f) provider) rows ≡ map (status_of_row (reported version g) provider) rows
statuses-same version f g provider [] same = refl
statuses-same version f g provider (row ∷ rows) same = ap₂ (λ s ss. s ∷ ss) (status-same version f g provider row same) (statuses-same version f g provider rows same)

-- the counts under the index are the counts under the journal
pub counts-alike : (parts : TermsParts) (J : List Event) (providers : ℕ) (decisions : Decisions) (counts : List RecordCounts) → IsFinishedOver parts J
    → LaidOut parts.plan.version providers J decisions → providers ≡ length parts.files
    → EachIsCounted (looked_up decisions) parts.plan.names parts.files counts → AreCounted parts J counts
counts-alike parts J providers decisions counts finished laid as_many counted_each =
    let some = some-files parts.plan.names parts.files
    (λ i below. let file = counted_each.each i below in record { rows = file.rows; are_rows = file.read.are_rows }) in
    let journal = finished (terms-by parts some.files) (are-terms parts some.files some.are_rows) in
    record {
      count = counted_each.count;
      each = λ i below.
          let file = counted_each.each i below in
          let known : suc i ≤ providers = omega (arith, below, as_many) in
          record {
            rows = file.rows;
            read = file.read;
            counts_are =
                file.counts_are
                ∙ ap (fold counted no_records)
                (statuses-same decisions.version (found_of decisions) (decided_as J) (suc i) file.rows
                (λ place. looked-right parts.plan.version providers J decisions laid journal.lawful.sound.in_order (suc i) place (omega arith) known))
                ∙ ap (λ version. counts_of (reported version (decided_as J)) (suc i) file.rows) laid.version_is;
          };
    }

-- all files are counted
pub files-all : (by : Deciding) (names : List InputData) (texts : List (List ℕ)) (place : ℕ) (counts : List RecordCounts) → place ≡ length texts
    → FilesCounted by names texts place counts → EachIsCounted by names texts counts
files-all by names texts place counts all so_far = record {
  count = so_far.count ∙ all;
  each = λ i below. so_far.each i (subst (λ n. i < n) (sym all) below);
}

-- the counts and the sum of a run, whose journal is that of its batch
pub run-counted : (parts other : TermsParts) (J K : List Event) (providers : ℕ) (decisions : Decisions) (sums : Sums) (counts : RunCounts) → other ≡ parts
    → IsFinishedOver other K → J ≡ K → LaidOut parts.plan.version providers J decisions → providers ≡ length parts.files
    → EachIsCounted (looked_up decisions) parts.plan.names parts.files (map (λ file. file.counts) counts.files.items) → AreSums J (length J) sums
    → ((L : List Event) (count : ℕ) → AreSums L count sums → pos counts.paid ≡ sum_of (amount_of Paid) (paid_outcomes L)) → AreRunCounts parts K counts
run-counted parts other J K providers decisions sums counts same finished alike laid as_many counted_each are paid =
    let over : IsFinishedOver parts J = subst (λ p. IsFinishedOver p J) same (subst (IsFinishedOver other) (sym alike) finished) in
    subst (λ L. AreRunCounts parts L counts) alike
    (record {
      files = counts-alike parts J providers decisions (map (λ file. file.counts) counts.files.items) over laid as_many counted_each;
      paid = paid J (length J) are;
    })
