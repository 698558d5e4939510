-- The lines of a check's report, which are put in pieces.
use Rattle.std.proofs.Common.{◌≡◌, ℕ, ◌+◌, ◌/◌, ◌%◌, ◌<◌, ◌≤◌, inl, inr, Bool, true, false, List, [], ◌∷◌, ◌++◌, length, get_or, take, max, decimal, ap, ap₂, sym, subst, ◌∙◌, arith}
use Rattle.std.specs.Prelude.{nat_lt}
use Rattle.std.specs.Bool.{OnTrue}
use Rattle.std.specs.List.{flat_map}
use Rattle.std.proofs.lemmas.Bool.{cases_lt, le-ltb, lt-ltb}
use Rattle.std.proofs.lemmas.List.{take_all}
use Rattle.fixpoint.specs.BufferedOut.{At, Puts}
use Rattle.fixpoint.proofs.Buffering.{puts-none, puts-then}
use Rattle.check_report.specs.declared.check.report.ColumnText.{ColumnText}
use Rattle.check_report.specs.declared.check.report.TableReport.{TableReport}
use Rattle.check_report.specs.CheckText.{wide_line}
use Rattle.check_report.specs.CheckReport.{cell_text, reported_lines, reported_table_lines, reported_wide_lines}
use Rattle.check_report.proofs.TableLines.{flat_more}

-- three texts are put in sequence
pub puts-three : (a b c d : At) (one other last : List ℕ) → Puts a b one → Puts b c other → Puts c d last → Puts a d (one ++ (other ++ last))
puts-three a b c d one other last first second third = puts-then a b d one (other ++ last) first (puts-then b c d other last second third)

-- the lines of one more item are put
pub puts-more : {X : Type 0} (line : X → List ℕ) (xs : List X) (i : ℕ) (d : X) (a b c : At) → i < length xs → Puts a b (flat_map line (take i xs)) → Puts b c (line (get_or xs i d)) → Puts a c (flat_map line (take (i + 1) xs))
puts-more line xs i d a b c below so_far last =
    subst (Puts a c) (sym (flat_more line xs i d below)) (puts-then a b c (flat_map line (take i xs)) (line (get_or xs i d)) so_far last)

-- the lines of all items are put
pub puts-all : {X : Type 0} (line : X → List ℕ) (xs : List X) (i : ℕ) (a b : At) → length xs ≤ i → Puts a b (flat_map line (take i xs)) → Puts a b (flat_map line xs)
puts-all line xs i a b end so_far = subst (λ items. Puts a b (flat_map line items)) (take_all i xs end) so_far

-- some words and a number's digits are put
pub puts-numbered : (a b c : At) (words first second : List ℕ) (number : ℕ) → first ≡ words → second ≡ decimal number → Puts a b first → Puts b c second → Puts a c (words ++ decimal number)
puts-numbered a b c words first second number first_is second_is one other = subst (Puts a c) (ap₂ (λ s t. s ++ t) first_is second_is) (puts-then a b c first second one other)

-- the line of a wide table is put
pub puts-wide : (a c : At) (table : ℕ) (wide : Bool) → wide ≡ true → Puts a c (wide_line table) → Puts a c (reported_wide_lines table wide)
puts-wide a c table wide is line = subst (λ w. Puts a c (reported_wide_lines table w)) (sym is) line

pub puts-not-wide : (a : At) (table : ℕ) (wide : Bool) → wide ≡ false → Puts a a (reported_wide_lines table wide)
puts-not-wide a table wide is = subst (λ w. Puts a a (reported_wide_lines table w)) (sym is) (puts-none a)

-- the region of one column is put, and then those of the next columns
pub puts-cell : (a b c : At) (column : ColumnText) (more columns : List ColumnText) (place following : ℕ) (text : List ℕ) → columns ≡ column ∷ more → following ≡ max column.following 1 → text ≡ get_or column.regions (place / following) []
    → Puts a b text → Puts b c (cell_text more (place % following)) → Puts a c (cell_text columns place)
puts-cell a b c column more columns place following text columns_are after_is text_is first second =
    let joined : text ++ cell_text more (place % following) ≡ cell_text columns place =
    ap (λ t. t ++ cell_text more (place % following)) text_is ∙ ap (λ n. get_or column.regions (place / n) [] ++ cell_text more (place % n)) after_is ∙ ap (λ cs. cell_text cs place) (sym columns_are) in
    subst (Puts a c) joined (puts-then a b c text (cell_text more (place % following)) first second)

pub puts-no-cell : (a : At) (columns : List ColumnText) (place : ℕ) → length columns ≡ 0 → Puts a a (cell_text columns place)
puts-no-cell a [] place none = puts-none a
puts-no-cell a (c ∷ cs) place none = absurd (omega (arith, none))

-- the lines of one table are put, and then those of the next tables
pub puts-tables : (a b c : At) (number : ℕ) (table : TableReport) (more tables : List TableReport) → tables ≡ table ∷ more → Puts a b (reported_table_lines number table) → Puts b c (reported_lines (number + 1) more) → Puts a c (reported_lines number tables)
puts-tables a b c number table more tables are first second =
    subst (Puts a c) (ap (reported_lines number) (sym are)) (puts-then a b c (reported_table_lines number table) (reported_lines (number + 1) more) first second)

pub puts-no-tables : (a : At) (number : ℕ) (tables : List TableReport) → length tables ≡ 0 → Puts a a (reported_lines number tables)
puts-no-tables a number [] none = puts-none a
puts-no-tables a number (t ∷ ts) none = absurd (omega (arith, none))

-- a fact for a smaller count holds if the comparison answers true
pub on_less : (count limit : ℕ) (P : Type 0) → (count < limit → P) → OnTrue (nat_lt count limit) P
on_less count limit P holds = elim (cases_lt count limit) [
  | inl less ↦ subst (λ b. OnTrue b P) (sym (lt-ltb count limit less)) (holds less)
  | inr most ↦ subst (λ b. OnTrue b P) (sym (le-ltb count limit most)) tt
]
