-- The report on a plan gives the lines of its check: the texts of the cells at the indices of the gaps are the texts of the gaps.
use Rattle.std.proofs.Common.{◌≡◌, ℕ, zero, suc, ◌+◌, ◌-◌, ◌*◌, ◌/◌, ◌%◌, ◌≤◌, ◌<◌, Bool, true, false, cond, eqb, not, inl, inr, List, [], ◌∷◌, ◌++◌, length, get_or, map, filter, min, max, codes, decimal, Option, Some, None, is_some, refl, ap, ap₂, sym, subst, ◌∙◌, length-append, arith}
use Rattle.std.specs.Global.{Vec}
use Rattle.std.specs.List.{flat_map, join_by, range_with_len, slice_get}
use Rattle.std.specs.Option.{option_map_or}
use Rattle.std.proofs.lemmas.Bool.{cases_lt, false≢true, ne_eqb, le-ltb, lt-ltb}
use Rattle.std.proofs.lemmas.List.{length-map}
use Rattle.std.proofs.lemmas.List.Folds.{flat_map-map}
use Rattle.std.proofs.lemmas.Nat.{div-mul-add, mod-mul-add}
use Rattle.std.proofs.lemmas.Option.{none-some, same_Some, get_or_from_slice_get}
use Rattle.tables.specs.declared.table.Table.{Table}
use Rattle.tables.specs.Plan.{PlanParts}
use Rattle.regions.specs.declared.region.Region.{Region}
use Rattle.cutplan.specs.Check.{cells, gaps}
use Rattle.cutplan.specs.Numbered.{cell_limit, cells_of, gaps_of}
use Rattle.cutplan.specs.Places.{ArePlaces, is_gap, is_gap_of, places, regions_of}
use Rattle.regions.specs.Regions.{table_regions}
use Rattle.cutplan.proofs.Places.{places-cons}
use Rattle.check_report.specs.declared.check.report.ColumnText.{ColumnText}
use Rattle.check_report.specs.declared.check.report.Findings.{Findings}
use Rattle.check_report.specs.declared.check.report.CheckReport.{CheckReport}
use Rattle.check_report.specs.declared.check.report.TableReport.{TableReport}
use Rattle.evaluation.specs.ValueText.{line_end}
use Rattle.check_report.specs.CheckText.{counts_line, gap_line, is_wide, overlap_line, region_text, reported_gaps}
use Rattle.check_report.specs.Findings.{gaps_in, overlaps_in, table_lines, reports_gaps, text_in}
use Rattle.check_report.specs.CheckReport.{AreReported, IsReported, IsReportedOf, IsReportedOfFirst, cell_text, column_texts, column_texts_if, marked_region, separator, reported_gap_line, reported_lines, reported_places, reported_table_lines, reported_text, reported_wide_lines}
use Rattle.check_report.proofs.TableLines.{count_more}

-- the index of a cell, from the index of its region in the first column and the index of its rest among the cells of the other columns
record IsPlaced (regions : List Region) (rest : List (List Region)) (n : ℕ) (cell : List Region) : Type 0 where
  place : ℕ
  region : Region
  following : ℕ
  more : List Region
  place_is : n ≡ place * length rest + following
  below : following < length rest
  few : length rest ≤ length (flat_map (λ (r : Region). map (λ (c : List Region). r ∷ c) rest) regions)
  present : slice_get regions place ≡ Some region
  others : slice_get rest following ≡ Some more
  cell_is : cell ≡ region ∷ more

slice_left : {X : Type 0} (xs ys : List X) (n : ℕ) → n < length xs → slice_get (xs ++ ys) n ≡ slice_get xs n
slice_left [] ys n below = absurd (omega (arith, below))
slice_left (x ∷ xs) ys zero below = refl
slice_left (x ∷ xs) ys (suc n) below = slice_left xs ys n (omega (arith, below))

slice_right : {X : Type 0} (xs ys : List X) (n : ℕ) → slice_get (xs ++ ys) (length xs + n) ≡ slice_get ys n
slice_right [] ys n = let here : 0 + n ≡ n = omega arith in ap (slice_get ys) here
slice_right (x ∷ xs) ys n = let next : suc (length xs) + n ≡ suc (length xs + n) = omega arith in ap (slice_get (x ∷ (xs ++ ys))) next ∙ slice_right xs ys n

slice_mapped : {X Y : Type 0} (f : X → Y) (xs : List X) (n : ℕ) (y : Y) → slice_get (map f xs) n ≡ Some y → (x : X) × (slice_get xs n ≡ Some x) × (y ≡ f x)
slice_mapped f [] n y at = absurd (none-some y at)
slice_mapped f (x ∷ xs) zero y at = (x, refl, sym (same_Some (f x) y at))
slice_mapped f (x ∷ xs) (suc n) y at = slice_mapped f xs n y at

slice_map : {X Y : Type 0} (f : X → Y) (xs : List X) (n : ℕ) (x : X) → slice_get xs n ≡ Some x → slice_get (map f xs) n ≡ Some (f x)
slice_map f [] n x at = absurd (none-some x at)
slice_map f (y ∷ xs) zero x at = ap (λ z. Some (f z)) (same_Some y x at)
slice_map f (y ∷ xs) (suc n) x at = slice_map f xs n x at

-- each cell of a column before others has such an index
placed : (regions : List Region) (rest : List (List Region)) (n : ℕ) (cell : List Region) → slice_get (flat_map (λ (r : Region). map (λ (c : List Region). r ∷ c) rest) regions) n ≡ Some cell → IsPlaced regions rest n cell
placed [] rest n cell at = absurd (none-some cell at)
placed (r ∷ rs) rest n cell at =
    let front = map (λ (c : List Region). r ∷ c) rest in
    let back = flat_map (λ (x : Region). map (λ (c : List Region). x ∷ c) rest) rs in
    let long : length front ≡ length rest = length-map rest (λ (c : List Region). r ∷ c) in
    let joined = length-append front back in
    elim (cases_lt n (length rest)) [
      | inl less ↦ (let found = slice_mapped (λ (c : List Region). r ∷ c) rest n cell (sym (slice_left front back n (omega (arith, less, long))) ∙ at) in record {
        place = 0;
        region = r;
        following = n;
        more = found.0;
        place_is = omega arith;
        below = less;
        few = omega (arith, long, joined);
        present = refl;
        others = found.1;
        cell_is = found.2;
      })
      | inr most ↦ (
          let left : n ≡ length front + (n - length rest) = omega (arith, most, long) in
          let found = placed rs rest (n - length rest) cell (sym (slice_right front back (n - length rest)) ∙ ap (slice_get (front ++ back)) (sym left) ∙ at) in
          record {
            place = suc found.place;
            region = found.region;
            following = found.following;
            more = found.more;
            place_is = next_place n (length rest) found.place found.following most found.place_is;
            below = found.below;
            few = omega (arith, long, joined);
            present = found.present;
            others = found.others;
            cell_is = found.cell_is;
          }
          )
    ]
  where
    next_place : (n k place following : ℕ) → k ≤ n → n - k ≡ place * k + following → n ≡ suc place * k + following
    next_place n k place following most is = omega (arith, most, is)

-- the text of a cell, whose first region comes after this mark
abbrev pub marked_cell : List ℕ → List Region → List ℕ
marked_cell mark [] = []
marked_cell mark (r ∷ rs) = marked_region mark r ++ marked_cell separator rs

-- the text of the cell at an index is made of the texts of the columns
cell_at : (mark : List ℕ) (columns : List (List Region)) (n : ℕ) (cell : List Region) → length (cells columns) ≤ cell_limit → slice_get (cells columns) n ≡ Some cell → cell_text (column_texts mark columns) n ≡ marked_cell mark cell
cell_at mark [] zero cell narrow at = ap (marked_cell mark) (same_Some [] cell at)
cell_at mark [] (suc n) cell narrow at = absurd (none-some cell at)
cell_at mark (regions ∷ more) n cell narrow at =
    let p = placed regions (cells more) n cell at in
    let k : ℕ = length (cells more) in
    let some = p.below in
    let few = p.few in
    let following : max (min k (cell_limit + 1)) 1 ≡ k = omega (arith, some, few, narrow) in
    let quotient : n / max (min k (cell_limit + 1)) 1 ≡ p.place = ap₂ (λ a b. a / b) p.place_is following ∙ div-mul-add p.place k p.following some in
    let rest : n % max (min k (cell_limit + 1)) 1 ≡ p.following = ap₂ (λ a b. a % b) p.place_is following ∙ mod-mul-add p.place k p.following some in
    let texts = map (marked_region mark) regions in
    let first : get_or texts p.place [] ≡ marked_region mark p.region = get_or_from_slice_get texts p.place (marked_region mark p.region) [] (slice_map (marked_region mark) regions p.place p.region p.present) in
    let others = cell_at separator more p.following p.more (omega (arith, few, narrow)) p.others in
    ap₂ (λ a b. get_or texts a [] ++ cell_text (column_texts separator more) b) quotient rest
    ∙ ap₂ (λ a b. a ++ b) first others ∙ ap (marked_cell mark) (sym p.cell_is)

marked_others : (cell : List Region) → marked_cell separator cell ≡ flat_map (λ r. separator ++ region_text r) cell
marked_others [] = refl
marked_others (r ∷ rs) = ap (λ end. (separator ++ region_text r) ++ end) (marked_others rs)

marked_all : (cell : List Region) → marked_cell [] cell ≡ join_by region_text separator cell
marked_all [] = refl
marked_all (r ∷ rs) = ap (λ end. region_text r ++ end) (marked_others rs)

-- mapping the indices of the elements that pass a test is mapping these elements
made_alike : {X Y : Type 0} (f : ℕ → Y) (g : X → Y) (test : X → Bool) (k : ℕ) (xs : List X) → ((n : ℕ) (x : X) → slice_get xs n ≡ Some x → f (k + n) ≡ g x) → map f (places test k xs) ≡ map g (filter test xs)
made_alike f g test k [] alike = refl
made_alike f g test k (x ∷ xs) alike =
    let here : f k ≡ g x = let zero_more : k ≡ k + 0 = omega arith in ap f zero_more ∙ alike 0 x refl in
    let rest : map f (places test (k + 1) xs) ≡ map g (filter test xs) =
    made_alike f g test (k + 1) xs (λ n y at. let there : (k + 1) + n ≡ k + suc n = omega arith in ap f there ∙ alike (suc n) y at) in
    ap (map f) (places-cons test k x xs)
    ∙ (elim (test x) as (λ b. map f (cond b (k ∷ places test (k + 1) xs) (places test (k + 1) xs)) ≡ map g (cond b (x ∷ filter test xs) (filter test xs))) [
      | true ↦ ap₂ (λ y ys. y ∷ ys) here rest
      | false ↦ rest
    ])

-- the texts of the cells at the indices of the gaps are the texts of the gaps
gap_texts : (test : List Region → Bool) (columns : List (List Region)) → length (cells columns) ≤ cell_limit
    → map (cell_text (column_texts [] columns)) (places test 0 (cells columns)) ≡ map (join_by region_text separator) (filter test (cells columns))
gap_texts test columns narrow =
    made_alike (cell_text (column_texts [] columns)) (join_by region_text separator) test 0 (cells columns) (λ n cell at. let here : 0 + n ≡ n = omega arith in ap (cell_text (column_texts [] columns)) here ∙ cell_at [] columns n cell narrow at ∙ marked_all cell)

-- without gaps the columns are not needed
texts_if : (texts : List ColumnText) (found : List ℕ) (wanted : List (List ℕ)) → map (cell_text texts) found ≡ wanted → map (cell_text (cond (eqb (length found) 0) [] texts)) found ≡ wanted
texts_if texts [] wanted is = is
texts_if texts (n ∷ ns) wanted is = ap (λ b. map (cell_text (cond b [] texts)) (n ∷ ns)) (ne_eqb (suc (length ns)) 0 (λ e. absurd (omega (arith, e)))) ∙ is

-- this holds for the table with this number, if there is one
table_texts : (p : PlanParts) (number : ℕ) (found : Option Table) → slice_get p.tables (number - 1) ≡ found → length (option_map_or (λ t. cells (table_regions p t)) found []) ≤ cell_limit
    → map (cell_text (column_texts [] (option_map_or (table_regions p) found []))) (places (λ cell. option_map_or (λ t. is_gap t cell) found true) 0 (option_map_or (λ t. cells (table_regions p t)) found []))
    ≡ map (join_by region_text separator) (option_map_or (gaps p) found [])
table_texts p number (Some t) at narrow = gap_texts (is_gap t) (table_regions p t) narrow
table_texts p number None at narrow = refl

-- the reported gaps of a table have the texts of its gaps
pub gaps_reported : (findings : Findings) (p : PlanParts) (number : ℕ) (columns : List (List Region)) (gaps : Option (Vec ℕ)) (reported : List ℕ) (texts : List ColumnText) → columns ≡ regions_of p number
    → ArePlaces (cells_of p number) (is_gap_of p number) gaps → reported ≡ reported_places findings p number gaps → texts ≡ column_texts_if reported columns
    → map (cell_text texts) reported ≡ map (join_by region_text separator) (gaps_in findings p number)
gaps_reported findings p number columns None reported texts columns_are wide reported_is texts_are =
    let no : reported_gaps p number ≡ [] = ap (λ b. cond b [] (gaps_of p number)) (lt-ltb cell_limit (length (cells_of p number)) wide) in
    ap (map (cell_text texts)) reported_is
    ∙ (elim (reports_gaps findings p number) as (λ b. [] ≡ map (join_by region_text separator) (cond b (reported_gaps p number) [])) [
      | true ↦ ap (map (join_by region_text separator)) (sym no)
      | false ↦ refl
    ])
gaps_reported findings p number columns (Some found) reported texts columns_are narrow reported_is texts_are =
    let all : reported_gaps p number ≡ gaps_of p number = ap (λ b. cond b [] (gaps_of p number)) (le-ltb cell_limit (length (cells_of p number)) narrow.0) in
    let whole : map (cell_text (column_texts [] columns)) found.items ≡ map (join_by region_text separator) (reported_gaps p number) =
    ap₂ (λ cs ns. map (cell_text (column_texts [] cs)) ns) columns_are narrow.1 ∙ table_texts p number (slice_get p.tables (number - 1)) refl narrow.0 ∙ ap (map (join_by region_text separator)) (sym all) in
    ap (λ ts. map (cell_text ts) reported) texts_are
    ∙ texts_if (column_texts [] columns) reported (map (join_by region_text separator) (gaps_in findings p number))
    (ap (map (cell_text (column_texts [] columns))) reported_is
    ∙ (elim (reports_gaps findings p number) as (λ b. map (cell_text (column_texts [] columns)) (cond b found.items []) ≡ map (join_by region_text separator) (cond b (reported_gaps p number) [])) [
      | true ↦ whole
      | false ↦ refl
    ]))

-- the report says that a table is wide exactly if it is
pub wide_reported : (p : PlanParts) (number : ℕ) (gaps : Option (Vec ℕ)) (none : Bool) → is_some gaps ≡ not none → ArePlaces (cells_of p number) (is_gap_of p number) gaps → none ≡ is_wide p number
wide_reported p number None true is wide = sym (lt-ltb cell_limit (length (cells_of p number)) wide)
wide_reported p number None false is wide = absurd (false≢true is)
wide_reported p number (Some found) true is narrow = absurd (false≢true (sym is))
wide_reported p number (Some found) false is narrow = sym (le-ltb cell_limit (length (cells_of p number)) narrow.0)

-- the line of a gap by the text of its cell
abbrev pub line_of : ℕ → List ℕ → List ℕ
line_of table text = codes "gap table " ++ (decimal table ++ (codes ": " ++ (text ++ line_end ∷ [])))

-- the lines of the report on a table are the lines of the table
lines_reported : (findings : Findings) (p : PlanParts) (number : ℕ) (reported : TableReport) → IsReported findings p number reported → reported_table_lines number reported ≡ table_lines findings p number
lines_reported findings p number reported is =
    let gap_lines : flat_map (reported_gap_line number reported.columns) reported.gaps.items ≡ flat_map (gap_line number) (gaps_in findings p number) =
    sym (flat_map-map (line_of number) (cell_text reported.columns) reported.gaps.items) ∙ ap (flat_map (line_of number)) is.gaps ∙ flat_map-map (line_of number) (join_by region_text separator) (gaps_in findings p number) in
    ap₂ (λ overlaps rest. flat_map (overlap_line number) overlaps ++ rest) is.overlaps (ap₂ (λ wide lines. reported_wide_lines number wide ++ lines) is.wide gap_lines)

tables_reported : (findings : Findings) (p : PlanParts) (number : ℕ) (tables : List TableReport) → AreReported findings p number tables → reported_lines number tables ≡ flat_map (table_lines findings p) (range_with_len number (length tables))
tables_reported findings p number [] all = refl
tables_reported findings p number (t ∷ ts) all = ap₂ (λ a b. a ++ b) (lines_reported findings p number t all.0) (tables_reported findings p (number + 1) ts all.1)

-- the text of the report is the text for the plan
pub text_reported : (findings : Findings) (p : PlanParts) (reported : CheckReport) → IsReportedOf findings p reported → reported_text reported ≡ text_in findings p
text_reported findings p reported is =
    ap₂ (λ lines counts. lines ++ counts)
    (tables_reported findings p 1 reported.tables.items is.tables ∙ ap (λ n. flat_map (table_lines findings p) (range_with_len 1 n)) is.long) (ap₂ counts_line is.gaps is.overlaps)

reported_more : (findings : Findings) (p : PlanParts) (number : ℕ) (tables : List TableReport) (table : TableReport) → AreReported findings p number tables → IsReported findings p (number + length tables) table → AreReported findings p number (tables ++ table ∷ [])
reported_more findings p number [] table all one = let here : number + 0 ≡ number = omega arith in (subst (λ n. IsReported findings p n table) here one, tt)
reported_more findings p number (t ∷ ts) table all one =
    let there : number + suc (length ts) ≡ (number + 1) + length ts = omega arith in
    (all.0, reported_more findings p (number + 1) ts table all.1 (subst (λ n. IsReported findings p n table) there one))

-- the report with one more table
pub plan_more : (findings : Findings) (p : PlanParts) (count : ℕ) (old new : CheckReport) (table : TableReport) → IsReportedOfFirst findings p count old → IsReported findings p (count + 1) table
    → new.tables.items ≡ old.tables.items ++ table ∷ [] → new.gaps ≡ old.gaps + length table.gaps.items → new.overlaps ≡ old.overlaps + length table.overlaps.items
    → IsReportedOfFirst findings p (count + 1) new
plan_more findings p count old new table before one tables gaps overlaps =
    let long = before.long in
    let number : count + 1 ≡ 1 + length old.tables.items = omega (arith, long) in
    let reported_count : length table.gaps.items ≡ length (gaps_in findings p (count + 1)) =
    sym (length-map table.gaps.items (cell_text table.columns)) ∙ ap length one.gaps ∙ length-map (gaps_in findings p (count + 1)) (join_by region_text separator) in
    let overlap_count = ap length one.overlaps in
    record {
      long = ap length tables ∙ length-append old.tables.items (table ∷ []) ∙ ap (λ n. n + 1) long;
      tables = subst (AreReported findings p 1) (sym tables) (reported_more findings p 1 old.tables.items table before.tables (subst (λ n. IsReported findings p n table) number one));
      gaps = gaps ∙ ap₂ (λ a b. a + b) before.gaps reported_count ∙ sym (count_more (λ t. length (gaps_in findings p t)) count);
      overlaps = overlaps ∙ ap₂ (λ a b. a + b) before.overlaps overlap_count ∙ sym (count_more (λ t. length (overlaps_in findings p t)) count);
    }
