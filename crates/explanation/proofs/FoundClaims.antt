-- The claims with an identifier, found row by row.
use Rattle.std.proofs.Common.{◌≡◌, ◌+◌, ◌-◌, ◌<◌, ℕ, suc, List, [], ◌∷◌, ◌++◌, drop, take, length, get_or, slice_get, Option, Some, None, refl, sym, ap, ◌∙◌, arith, append-nil, append_assoc, take-append-drop}
use Rattle.std.proofs.lemmas.List.{length-take-le, length_push}
use Rattle.std.proofs.lemmas.Option.{slice_get-get_or}
use Rattle.std.proofs.lemmas.List.Concat.{flat_map-append}
use Rattle.tables.specs.declared.table.InputData.{InputData}
use Rattle.intake_csv.specs.Laws.{GivenRowIsTheFirst, LieApart, NoRecordsNoRows, StartHasTheRows}
use Rattle.intake_csv.specs.Records.{Fields}
use Rattle.intake_csv.specs.RowSummary.{GivesSummary, IsSummaryOf, Reports}
use Rattle.intake_csv.specs.Rows.{AreRowsOf, Gives, IsAtStart, RowsLeft}
use Rattle.intake_csv.specs.declared.row_summary.RowSummary.{RowSummary}
use Rattle.intake_csv.specs.declared.rows.Row.{Row}
use Rattle.explanation.specs.Finding.{found_in, place_with, places_in, places_of}
use Rattle.explanation.specs.Walking.{IsPast}
use Rattle.explanation.specs.declared.finding.FoundClaim.{FoundClaim}
use Rattle.explanation.specs.declared.row.Place.{Place}
use Rattle.explanation.proofs.Rows.{past_more, past_none, row_found, take_next}

-- what is found in the rows so far, after what was found before them
pub record IsSearched (names : List InputData) (text id : List ℕ) (provider : ℕ) (earlier found : Option FoundClaim) (left : RowsLeft) : Type 0 where
  pub count : ℕ
  pub past : IsPast names text count left
  pub found_is : (rows : List Row) (places : List Place) → AreRowsOf names text rows → earlier ≡ found_in places → found ≡ found_in (places ++ places_in id provider (take count rows))

module _ (names : List InputData) (text id : List ℕ) (provider : ℕ) (earlier : Option FoundClaim) where
  pub searched_first : StartHasTheRows → (left : RowsLeft) → IsAtStart names text left → LieApart left.layout.columns → IsSearched names text id provider earlier earlier left
  searched_first law left start apart = record {
    count = 0;
    past = past_none law names text left start apart;
    found_is = λ rows places are is. is ∙ ap found_in (sym (append-nil places));
  }

  pub searched_more : GivenRowIsTheFirst → (old new : RowsLeft) (found more : Option FoundClaim) (fields : Fields) (reported : RowSummary) → IsSearched names text id provider earlier found old
      → GivesSummary old new fields (Some reported)
      → ((row : Row) (places : List Place) → IsSummaryOf fields reported row → found ≡ found_in places → more ≡ found_in (places ++ place_with id provider row))
      → IsSearched names text id provider earlier more new
  searched_more first old new found more fields reported s g step = by_row g.row g.gives g.reports
    where
      by_row : (row : Option Row) → Gives old new row → Reports fields (Some reported) row → IsSearched names text id provider earlier more new
      by_row None gives reports = absurd reports
      by_row (Some row) gives reports = record {
        count = s.count + 1;
        past = past_more first names text s.count old new s.past row gives;
        found_is = λ rows places are is.
            let number : suc s.count - 1 ≡ s.count = omega arith in
            let at = row_found first names text s.count old new s.past row gives (suc s.count) number rows are ∙ ap (slice_get rows) number in
            let taken = take_next rows s.count row (sym at) in
            step row (places ++ places_in id provider (take s.count rows)) reports (s.found_is rows places are is)
            ∙ ap found_in (append_assoc places (places_in id provider (take s.count rows)) (place_with id provider row))
            ∙ ap (λ ps. found_in (places ++ ps))
            (ap (λ ps. places_in id provider (take s.count rows) ++ ps) (sym (append-nil (place_with id provider row)))
            ∙ sym (flat_map-append (place_with id provider) (take s.count rows) (row ∷ []))
            ∙ ap (places_in id provider) (sym taken));
      }

  pub searched_all : NoRecordsNoRows → (old : RowsLeft) (found : Option FoundClaim) → IsSearched names text id provider earlier found old → old.records ≡ [] → (rows : List Row) (places : List Place) → AreRowsOf names text rows
      → earlier ≡ found_in places → found ≡ found_in (places ++ places_in id provider rows)
  searched_all law old found s none rows places are is =
      let nothing : drop s.count rows ≡ [] = law old (drop s.count rows) none (s.past.rest rows are) in
      let whole : take s.count rows ≡ rows = sym (append-nil (take s.count rows)) ∙ ap (λ rest. take s.count rows ++ rest) (sym nothing) ∙ take-append-drop s.count rows in
      s.found_is rows places are is ∙ ap (λ rs. found_in (places ++ places_in id provider rs)) whole

-- the reader has no row
pub none_given : (old new : RowsLeft) (fields : Fields) → GivesSummary old new fields None → old.records ≡ []
none_given old new fields g = by_row g.row g.gives g.reports
  where
    by_row : (row : Option Row) → Gives old new row → Reports fields None row → old.records ≡ []
    by_row None gives reports = gives.0
    by_row (Some row) gives reports = absurd reports

-- one more place
pub found_first : (place : Place) (places : List Place) → None ≡ found_in places → Some (record { place = place; others = 0 }) ≡ found_in (places ++ place ∷ [])
found_first place [] is = refl
found_first place (p ∷ places) is = absurd (cc is)

pub found_more : (first : FoundClaim) (place : Place) (places : List Place) (others : ℕ) → Some first ≡ found_in places → others ≡ first.others + 1
    → Some (record { place = first.place; others = others }) ≡ found_in (places ++ place ∷ [])
found_more first place [] others is more = absurd (cc is)
found_more first place (p ∷ places) others is more =
    let same : first ≡ record { place = p; others = length places } = cc is in
    let count : others ≡ length (places ++ place ∷ []) = more ∙ ap (λ (f : FoundClaim). f.others + 1) same ∙ sym (length_push places place) in
    λ i. Some (record { place = (ap (λ (f : FoundClaim). f.place) same) i; others = count i })

-- a row that does not count
pub not_found : (id : List ℕ) (provider : ℕ) (row : Row) (places : List Place) (earlier : Option FoundClaim) → place_with id provider row ≡ [] → earlier ≡ found_in places
    → earlier ≡ found_in (places ++ place_with id provider row)
not_found id provider row places earlier none is = is ∙ ap found_in (sym (append-nil places) ∙ ap (λ ps. places ++ ps) (sym none))

-- the places of files, the last of which is one more
places_more : (id : List ℕ) (provider : ℕ) (front after : List (List Row)) → places_of id provider (front ++ after) ≡ places_of id provider front ++ places_of id (provider + length front) after
places_more id provider [] after = let same : provider ≡ provider + 0 = omega arith in ap (λ p. places_of id p after) same
places_more id provider (rows ∷ front) after =
    let same : suc provider + length front ≡ provider + suc (length front) = omega arith in
    ap (λ ps. places_in id provider rows ++ ps) (places_more id (suc provider) front after ∙ ap (λ p. places_of id (suc provider) front ++ places_of id p after) same)
    ∙ sym (append_assoc (places_in id provider rows) (places_of id (suc provider) front) (places_of id (provider + suc (length front)) after))

pub next_file : (id : List ℕ) (files : List (List Row)) (index : ℕ) → index < length files
    → places_of id 1 (take (index + 1) files) ≡ places_of id 1 (take index files) ++ places_in id (index + 1) (get_or files index [])
next_file id files index within =
    let rows = get_or files index [] in
    let taken : take (index + 1) files ≡ take index files ++ rows ∷ [] = take_next files index rows (slice_get-get_or files index [] within) in
    let size : length (take index files) ≡ index = length-take-le index files (omega (arith, within)) in
    let provider : 1 + length (take index files) ≡ index + 1 = omega (arith, size) in
    ap (places_of id 1) taken ∙ places_more id 1 (take index files) (rows ∷ [])
    ∙ ap (λ p. places_of id 1 (take index files) ++ (places_in id p rows ++ [])) provider
    ∙ ap (λ ps. places_of id 1 (take index files) ++ ps) (append-nil (places_in id (index + 1) rows))
