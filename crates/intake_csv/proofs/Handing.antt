-- The rows that a reader returns one after another.
use Rattle.std.proofs.Common.{◌≡◌, ◌+◌, ℕ, suc, List, [], ◌∷◌, ◌++◌, length, drop, Some, cond, refl, sym, ap, ◌∙◌, arith}
use Rattle.std.specs.List.{count_by, slice_get}
use Rattle.std.proofs.lemmas.List.Sums.{sum_by-cons}
use Rattle.intake_csv.specs.Records.{Fields, records_of}
use Rattle.intake_csv.specs.Rows.{AreRowsLeft, GivesRow, IsRow, RowsLeft, claims_in, is_claim}
use Rattle.intake_csv.specs.declared.column.Layout.{Layout}
use Rattle.intake_csv.specs.declared.records.Stage.{Stage}
use Rattle.intake_csv.specs.declared.records.Stage.TheVariants.{Reading}
use Rattle.intake_csv.specs.declared.rows.Row.{Row}
use Rattle.intake_csv.specs.declared.rows.Row.TheVariants.{Good, Bad}

-- the count of claims with one more row
pub count-row : (row : Row) (rows : List Row) → count_by is_claim (row ∷ rows) ≡ claims_in row + count_by is_claim rows
count-row (Good number place claim) rows = sum_by-cons (λ x. cond (is_claim x) 1 0) (Good number place claim) rows
count-row (Bad number fault) rows = sum_by-cons (λ x. cond (is_claim x) 1 0) (Bad number fault) rows

-- the count of claims before and after a row
pub count-more : (row : Row) (rows : List Row) (old new : ℕ) → new ≡ old + claims_in row → new + count_by is_claim rows ≡ old + count_by is_claim (row ∷ rows)
count-more row rows old new e = let counted = count-row row rows in omega (arith, e, counted)

-- the returned row is the first of the rows that remained
pub rows-head : (old new : RowsLeft) (row : Row) → GivesRow old new row → (rest : List Row) → AreRowsLeft new rest → AreRowsLeft old (row ∷ rest)
rows-head old new row g rest h = record { as_many = ap suc h.as_many ∙ sym (ap length g.next); each = each }
  where
    each : (before after : List Row) (r : Row) (fields : Fields) → row ∷ rest ≡ before ++ r ∷ after → slice_get old.records (length before) ≡ Some fields
        → IsRow old.layout (old.number + length before) (old.place + count_by is_claim before) fields r
    each [] after r fields e at =
        let is : row ≡ r = cc e in
        let found : Some g.fields ≡ Some fields = rw g.next at at in
        let same : g.fields ≡ fields = cc found in
        let numbered : old.number + length {A = Row} [] ≡ old.number = omega arith in
        let placed : old.place + count_by is_claim [] ≡ old.place = omega arith in
        rw (numbered, placed, ← same, ← is) g.is_row
    each (b ∷ bs) after r fields e at =
        let is : row ≡ b = cc e in
        let others : rest ≡ bs ++ r ∷ after = cc e in
        let found = rw g.next at at in
        let step = h.each bs after r fields others found in
        let more : new.number + length bs ≡ old.number + suc (length bs) = omega (arith, g.number) in
        let counted : new.place + count_by is_claim bs ≡ old.place + count_by is_claim (b ∷ bs) = rw (← is) (count-more row bs old.place new.place g.place) in
        rw (g.layout, more, counted) at step

-- a reader at these records of a file
abbrev pub left_of : Layout → ℕ → ℕ → List ℕ → Stage → RowsLeft
left_of layout number place text stage = record { layout = layout; number = number; place = place; records = drop number (records_of text); stage = stage }

-- the reader returns the row of its next record
pub gives-row : (layout : Layout) (number place after : ℕ) (text : List ℕ) (stage : Stage) (fields : Fields) (row : Row) → drop number (records_of text) ≡ fields ∷ drop (number + 1) (records_of text)
    → IsRow layout number place fields row → after ≡ place + claims_in row → stage ≡ Reading
    → GivesRow (left_of layout number place text stage) (left_of layout (number + 1) after text stage) row
gives-row layout number place after text stage fields row next h counted well = record {
  fields = fields;
  next = next;
  is_row = h;
  layout = refl;
  number = refl;
  place = counted;
  stage = well;
}
