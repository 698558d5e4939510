-- The rows of a file, which a reader returns one by one, and their text.
pub use Rattle.remit_records.specs.Rows.{StartWith, Passed}
use Rattle.std.proofs.Common.{◌≡◌, ℕ, List, [], ◌∷◌, ◌++◌, map, ap, sym, subst, ◌∙◌, refl, append_assoc, append-nil}
use Rattle.std.proofs.lemmas.Grind.{flat_map-append}
use Rattle.std.proofs.lemmas.List.{map-append}
use Rattle.intake_csv.specs.Laws.{GivenRowIsTheFirst, NoRecordsNoRows, LieApart}
use Rattle.intake_csv.specs.Rows.{AreRowsLeft, GivesRow, RowsLeft}
use Rattle.intake_csv.specs.declared.rows.Row.{Row}
use Rattle.remit_records.specs.Records.{Deciding, record_of}
use Rattle.remit_records.specs.Report.{record_text, text_of}
use Rattle.remit_records.specs.Rows.{GivesAll, rows_text}

-- the text of two lists of rows in sequence
pub rows-append : (decided : Deciding) (provider : ℕ) (front following : List Row)
    → rows_text decided provider (front ++ following) ≡ rows_text decided provider front ++ rows_text decided provider following
rows-append decided provider front following =
    ap text_of (map-append (record_of decided provider) front following)
    ∙ flat_map-append record_text (map (record_of decided provider) front) (map (record_of decided provider) following)

-- the text of rows and of one more
pub rows-push : (decided : Deciding) (provider : ℕ) (front : List Row) (row : Row)
    → rows_text decided provider (front ++ row ∷ []) ≡ rows_text decided provider front ++ record_text (record_of decided provider row)
rows-push decided provider front row =
    rows-append decided provider front (row ∷ []) ∙ ap (λ text. rows_text decided provider front ++ text) (append-nil (record_text (record_of decided provider row)))

pub passed-none : (start : RowsLeft) → Passed start start []
passed-none start = record {
  forward = λ rest left. left;
  only = λ apart all left. record { rest = all; rows_are = refl; rest_left = left };
  layout = refl;
}

pub passed-next : GivenRowIsTheFirst → (start now next : RowsLeft) (given : List Row) (row : Row) → Passed start now given → GivesRow now next row
    → ((rest : List Row) → AreRowsLeft next rest → AreRowsLeft now (row ∷ rest)) → Passed start next (given ++ row ∷ [])
passed-next first start now next given row passed gives head = record {
  forward = λ rest left. subst (AreRowsLeft start) (sym (append_assoc given (row ∷ []) rest)) (passed.forward (row ∷ rest) (head rest left));
  only = λ apart all left.
      let following = passed.only apart all left in
      let apart_now = subst (λ l. LieApart l.columns) (sym passed.layout) apart in
      let begins = first now next row following.rest apart_now gives following.rest_left in
      record {
        rest = begins.rest;
        rows_are = following.rows_are ∙ ap (λ rows. given ++ rows) begins.rows_are ∙ sym (append_assoc given (row ∷ []) begins.rest);
        rest_left = begins.rest_left;
      };
  layout = gives.layout ∙ passed.layout;
}

pub passed-all : NoRecordsNoRows → (start now : RowsLeft) (given : List Row) → Passed start now given → now.records ≡ [] → AreRowsLeft now [] → GivesAll start given
passed-all none start now given passed empty left = record {
  are_rows = subst (AreRowsLeft start) (append-nil given) (passed.forward [] left);
  only = λ apart all all_left.
      let following = passed.only apart all all_left in
      following.rows_are ∙ ap (λ rows. given ++ rows) (none now following.rest empty following.rest_left) ∙ append-nil given;
}
