-- The records that a reader has returned, and those that remain.
use Rattle.std.proofs.Common.{◌≡◌, ◌<◌, ◌+◌, ℕ, suc, Bool, true, false, Bor, List, [], ◌∷◌, ◌++◌, Some, drop, take, length, map, sym, ap, subst, ◌∙◌, arith}
use Rattle.std.proofs.lemmas.List.{length_push, map_push}
use Rattle.csv.specs.Reading.{ReadRecord}
use Rattle.csv.specs.Records.{Row, fields_of}
use Rattle.csv.specs.declared.reader.Reader.{Reader}
use Rattle.intake_csv.specs.Reader.{HasLeft}
use Rattle.intake_csv.specs.Records.{Fields}
use Rattle.intake_csv.proofs.AllRecords.{reader-gives, reader-ends}
use Rattle.intake_csv.proofs.Lists.{one-more}
use Rattle.plan_rows.specs.Reading.{ReadsFrom}
use Rattle.plan_rows.proofs.RowLists.{take_next, take_whole}

-- a read that succeeds returns the first of the remaining records
pub reads_from : (old new : Reader (Bor (List ℕ))) (found : Bool) (fields : Fields) → ReadRecord (λ s. Some s.now) old new found fields → new.first ≡ true
    → (rows : List Fields) → HasLeft old rows → ReadsFrom rows found fields new
reads_from old new true fields read first rows h = let g = reader-gives old new rows 0 fields h read first in (drop 1 rows, g.next, g.left)
reads_from old new false fields read first rows h = reader-ends old new rows fields h read

-- what holds after one more record was returned
pub record OneMore (new : Reader (Bor (List ℕ))) (all : List Fields) (before after : List Row) : Type 0 where
  pub left : HasLeft new (drop (length after) all)
  pub listed : map fields_of after ≡ take (length after) all
  pub shorter : length (drop (length after) all) < length (drop (length before) all)

pub one_more_record : (new : Reader (Bor (List ℕ))) (all : List Fields) (before after : List Row) (row : Row) → after ≡ before ++ row ∷ [] → map fields_of before ≡ take (length before) all
    → ReadsFrom (drop (length before) all) true (fields_of row) new → OneMore new all before after
one_more_record new all before after row pushed listed read =
    let size : length after ≡ length before + 1 = ap length pushed ∙ length_push before row in
    let next = one-more all (length before) (fields_of row) read.0 read.1 in
    let rest : drop (length after) all ≡ read.0 = ap (λ n. drop n all) size ∙ next.1 in
    let fewer : length (drop (length before) all) ≡ suc (length read.0) = ap length read.1 in
    let same : length (drop (length after) all) ≡ length read.0 = ap length rest in
    record {
      left = subst (HasLeft new) (sym rest) read.2;
      listed = ap (map fields_of) pushed ∙ map_push fields_of before row ∙ ap (λ front. front ++ fields_of row ∷ []) listed
          ∙ sym (take_next all (length before) (fields_of row) read.0 read.1) ∙ ap (λ n. take n all) (sym size);
      shorter = omega (arith, fewer, same);
    }

-- all records were returned
pub all_records : (all : List Fields) (records : List Row) → map fields_of records ≡ take (length records) all → drop (length records) all ≡ [] → map fields_of records ≡ all
all_records all records listed none = listed ∙ take_whole all (length records) none
