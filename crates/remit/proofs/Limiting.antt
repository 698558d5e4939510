-- The rows that a reader returns up to a limit, and their writing.
use Rattle.std.proofs.Common.{◌≡◌, ◌≢◌, ◌≤◌, ◌-◌, ◌+◌, ℕ, Bool, Option, Some, None, Ok, Err, List, [], ◌∷◌, ◌++◌, append-nil, drop, length, take, option_map, ap, ap₂, sym, subst, ◌∙◌, refl, arith}
use Rattle.std.proofs.Math.Seq.{drop-append_seam, take-append-add, take-append_seam}
use Rattle.std.proofs.lemmas.List.{drop_all, length_push, take_all}
use Rattle.std.proofs.lemmas.Option.{none-some}
use Rattle.intake_csv.specs.Laws.{GivenRowIsTheFirst, NoRecordsNoRows}
use Rattle.intake_csv.specs.Rows.{AreRowsLeft, GivesRow, RowsLeft}
use Rattle.intake_csv.specs.declared.records.Stage.TheVariants.{Over}
use Rattle.intake_csv.specs.declared.rows.Row.{Row}
use Rattle.remit_records.specs.Records.{Deciding, record_of}
use Rattle.remit_records.specs.Report.{record_text}
use Rattle.remit_records.specs.Rows.{Begin, GivesFirst, GivesUpTo, IsWithin, Passed, Skips, WritesLeft, rows_text, up_to}
use Rattle.remit_records.specs.RecordWriter.{At, IsNoMemory, Writes, at}
use Rattle.faults.specs.declared.write_fault.WriteFault.{WriteFault}
use Rattle.remit_records.specs.declared.record_writer.RecordWriter.{RecordWriter}
use Rattle.remit_records.proofs.Holding.{gathers-and-hands, no-memory, writes-none, writes-then}
use Rattle.remit_records.proofs.Passing.{passed-all, passed-next, passed-none, rows-push}

-- `given` rows are returned, not more than the limit, and `left` rows are left up to it
pub record Counts (limit : Option ℕ) (given : ℕ) (left : Option ℕ) : Type 0 where
  pub left_is : left ≡ option_map (λ n. n - given) limit
  pub within : IsWithin given limit

counts-none : (limit : Option ℕ) → Counts limit 0 limit
counts-none None = record { left_is = refl; within = tt }
counts-none (Some limit) = record { left_is = let none : limit - 0 ≡ limit = omega arith in ap Some (sym none); within = omega arith }

counts-next : (limit : Option ℕ) (given next : ℕ) (left less : Option ℕ) → Counts limit given left → left ≢ Some 0 → less ≡ option_map (λ n. n - 1) left
    → next ≡ given + 1 → Counts limit next less
counts-next None given next left less counts some is one = record { left_is = is ∙ ap (option_map (λ n. n - 1)) counts.left_is; within = tt }
counts-next (Some limit) given next left less counts some is one =
    let more : limit - given ≢ 0 = λ none. some (counts.left_is ∙ ap Some none) in
    let down : (limit - given) - 1 ≡ limit - next = omega (arith, one) in
    record { left_is = is ∙ ap (option_map (λ n. n - 1)) counts.left_is ∙ ap Some down; within = omega (arith, counts.within, more, one) }

-- the returned rows are the first of all remaining ones up to the limit
first-up-to : (limit : Option ℕ) (given rest all : List Row) → IsWithin (length given) limit → all ≡ given ++ rest → Begin given (up_to limit all)
first-up-to None given rest all within is = record { rest = rest; whole_is = is }
first-up-to (Some limit) given rest all within is =
    let long : limit ≡ length given + (limit - length given) = omega (arith, within) in
    record {
      rest = take (limit - length given) rest;
      whole_is = ap₂ take long is ∙ take-append-add given rest (limit - length given);
    }

passed-front : (limit : Option ℕ) (start now : RowsLeft) (given : List Row) → IsWithin (length given) limit → Passed start now given → GivesFirst limit start given
passed-front limit start now given within passed apart all left =
    let following = passed.only apart all left in
    first-up-to limit given following.rest all within following.rows_are

-- the returned rows are all up to the limit, since none is left up to it
passed-full : (limit left : Option ℕ) (start now : RowsLeft) (given : List Row) → Counts limit (length given) left → left ≡ Some 0 → Passed start now given
    → GivesUpTo limit start given
passed-full None left start now given counts full passed = absurd (none-some 0 (sym counts.left_is ∙ full))
passed-full (Some limit) left start now given counts full passed = λ apart all all_left.
    let following = passed.only apart all all_left in
    let left_is : left ≡ Some (limit - length given) = counts.left_is in
    let zero : limit - length given ≡ 0 = cc (left_is, full) in
    let long : limit ≡ length given = omega (arith, counts.within, zero) in
    ap₂ take long following.rows_are ∙ take-append_seam given following.rest

-- the returned rows are all up to the limit, since the reader has no more
passed-over : NoRecordsNoRows → (limit : Option ℕ) (start now : RowsLeft) (given : List Row) → IsWithin (length given) limit → Passed start now given
    → now.records ≡ [] → AreRowsLeft now [] → GivesUpTo limit start given
passed-over none None start now given within passed empty left = passed-all none start now given passed empty left
passed-over none (Some limit) start now given within passed empty left = λ apart all all_left.
    ap (take limit) ((passed-all none start now given passed empty left).only apart all all_left) ∙ take_all limit given within

-- the rows that a reader has returned since its start are written, and `left` rows are left up to the limit
pub record RowsSoFar (decided : Deciding) (provider : ℕ) (limit left : Option ℕ) (start now : RowsLeft) (old new : At) : Type 0 where
  pub given : List Row
  pub passed : Passed start now given
  pub counts : Counts limit (length given) left
  pub writes : Writes old new (rows_text decided provider given) (Ok tt)

pub rows-none : (decided : Deciding) (provider : ℕ) (limit : Option ℕ) (start : RowsLeft) (old : At) → RowsSoFar decided provider limit limit start start old old
rows-none decided provider limit start old = record { given = []; passed = passed-none start; counts = counts-none limit; writes = writes-none old }

-- no more rows are counted as left after one more is returned
counted-more : (limit left less : Option ℕ) (given : List Row) (row : Row) → Counts limit (length given) left → left ≢ Some 0 → less ≡ option_map (λ n. n - 1) left
    → Counts limit (length (given ++ row ∷ [])) less
counted-more limit left less given row counts some is =
    counts-next limit (length given) (length (given ++ row ∷ [])) left less counts some is (length_push given row)

pub rows-next : GivenRowIsTheFirst → (decided : Deciding) (provider : ℕ) (limit left less : Option ℕ) (start now next : RowsLeft) (row : Row) (old new newer : At)
    → RowsSoFar decided provider limit left start now old new → left ≢ Some 0 → less ≡ option_map (λ n. n - 1) left → GivesRow now next row
    → ((rest : List Row) → AreRowsLeft next rest → AreRowsLeft now (row ∷ rest)) → Writes new newer (record_text (record_of decided provider row)) (Ok tt)
    → RowsSoFar decided provider limit less start next old newer
rows-next first decided provider limit left less start now next row old new newer so_far some is gives head writes = record {
  given = so_far.given ++ row ∷ [];
  passed = passed-next first start now next so_far.given row so_far.passed gives head;
  counts = counted-more limit left less so_far.given row so_far.counts some is;
  writes =
      subst (λ text. Writes old newer text (Ok tt)) (sym (rows-push decided provider so_far.given row))
      (writes-then old new newer (rows_text decided provider so_far.given) (record_text (record_of decided provider row)) tt (Ok tt) so_far.writes writes);
}

-- all rows up to the limit are written
pub rows-full : (decided : Deciding) (provider : ℕ) (limit left : Option ℕ) (start now : RowsLeft) (old new : At) → RowsSoFar decided provider limit left start now old new
    → left ≡ Some 0 → WritesLeft decided provider limit start old new (Ok tt)
rows-full decided provider limit left start now old new so_far full =
    (so_far.given, passed-full limit left start now so_far.given so_far.counts full so_far.passed, so_far.writes)

-- all rows are written
pub rows-done : NoRecordsNoRows → (decided : Deciding) (provider : ℕ) (limit left : Option ℕ) (start now : RowsLeft) (old new : At)
    → RowsSoFar decided provider limit left start now old new → now.records ≡ [] → AreRowsLeft now [] → WritesLeft decided provider limit start old new (Ok tt)
rows-done none decided provider limit left start now old new so_far empty none_left =
    (so_far.given, passed-over none limit start now so_far.given so_far.counts.within so_far.passed empty none_left, so_far.writes)

-- the writing ends within the next row
pub rows-refused : GivenRowIsTheFirst → (decided : Deciding) (provider : ℕ) (limit left : Option ℕ) (start now next : RowsLeft) (row : Row) (old new newer : At)
    (fault : WriteFault) → RowsSoFar decided provider limit left start now old new → left ≢ Some 0 → GivesRow now next row
    → ((rest : List Row) → AreRowsLeft next rest → AreRowsLeft now (row ∷ rest)) → Writes new newer (record_text (record_of decided provider row)) (Err fault)
    → WritesLeft decided provider limit start old newer (Err fault)
rows-refused first decided provider limit left start now next row old new newer fault so_far some gives head writes =
    let given = so_far.given ++ row ∷ [] in
    let passed = passed-next first start now next so_far.given row so_far.passed gives head in
    let counts = counted-more limit left (option_map (λ n. n - 1) left) so_far.given row so_far.counts some refl in (
      given,
      passed-front limit start next given counts.within passed,
      subst (λ text. Writes old newer text (Err fault)) (sym (rows-push decided provider so_far.given row))
          (writes-then old new newer (rows_text decided provider so_far.given) (record_text (record_of decided provider row)) tt (Err fault) so_far.writes writes),
    )

-- memory runs out for the next row
pub rows-no-memory : (decided : Deciding) (provider : ℕ) (limit left : Option ℕ) (start now : RowsLeft) (old : At) (contents : Option (List ℕ)) (failed : Bool)
    (writer : RecordWriter) (fault : WriteFault) → RowsSoFar decided provider limit left start now old (at contents failed writer) → IsNoMemory writer fault
    → WritesLeft decided provider limit start old (at contents failed writer) (Err fault)
rows-no-memory decided provider limit left start now old contents failed writer fault so_far none = (
  so_far.given,
  passed-front limit start now so_far.given so_far.counts.within so_far.passed,
  gathers-and-hands old (at contents failed writer) (at contents failed writer) (rows_text decided provider so_far.given) (Err fault) so_far.writes
      (no-memory contents failed writer writer [] fault none),
)

-- a reader has returned this number of rows
pub record Skipped (start now : RowsLeft) (count : ℕ) : Type 0 where
  pub given : List Row
  pub passed : Passed start now given
  pub counted : length given ≡ count

pub skipped-none : (start : RowsLeft) → Skipped start start 0
skipped-none start = record { given = []; passed = passed-none start; counted = refl }

pub skipped-next : GivenRowIsTheFirst → (start now next : RowsLeft) (count : ℕ) (row : Row) → Skipped start now count → GivesRow now next row
    → ((rest : List Row) → AreRowsLeft next rest → AreRowsLeft now (row ∷ rest)) → Skipped start next (count + 1)
skipped-next first start now next count row skipped gives head = record {
  given = skipped.given ++ row ∷ [];
  passed = passed-next first start now next skipped.given row skipped.passed gives head;
  counted = length_push skipped.given row ∙ ap (λ n. n + 1) skipped.counted;
}

pub skipped-all : (start now : RowsLeft) (count : ℕ) → Skipped start now count → Skips start now count
skipped-all start now count skipped = record {
  given = skipped.given;
  passed = skipped.passed;
  counted = λ rest left. sym (ap (λ n. drop n (skipped.given ++ rest)) (sym skipped.counted) ∙ drop-append_seam skipped.given rest);
}

-- a reader without further rows has passed over all
pub skipped-over : NoRecordsNoRows → (start now over : RowsLeft) (count most : ℕ) → Skipped start now count → count ≤ most → now.records ≡ [] → AreRowsLeft now []
    → over ≡ record now { stage = Over } → Skips start over most
skipped-over none start now over count most skipped within empty left is =
    let given = skipped.given in
    let past : length given ≤ most = omega (arith, skipped.counted, within) in
    subst (λ o. Skips start o most) (sym is)
    (record {
      given = given;
      passed = record {
        forward = skipped.passed.forward;
        only = λ apart all all_left.
            let behind = skipped.passed.only apart all all_left in
            record { rest = behind.rest; rows_are = behind.rows_are; rest_left = behind.rest_left };
        layout = skipped.passed.layout;
      };
      counted = λ rest rest_left.
          let no_rest = none now rest empty rest_left in
          no_rest ∙ sym (ap (λ rows. drop most (given ++ rows)) no_rest ∙ ap (drop most) (append-nil given) ∙ drop_all most given past);
    })
