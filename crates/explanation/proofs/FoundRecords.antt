-- A claim that is found has a record.
use Rattle.std.proofs.Common.{inl, inr, ◌≡◌, ◌+◌, ◌-◌, ◌<◌, ℕ, suc, List, [], ◌∷◌, ◌++◌, length, get_or, slice_get, Some, None, refl, sym, ap, subst, ◌∙◌, arith}
use Rattle.std.specs.List.{AllZip}
use Rattle.std.specs.Str.{bytes_eq}
use Rattle.std.proofs.lemmas.Bool.{cases_Bool}
use Rattle.std.proofs.lemmas.Option.{none-some, same_Some}
use Rattle.tables.specs.Plan.{PlanParts}
use Rattle.tables.specs.declared.table.InputData.{InputData}
use Rattle.dtable.specs.PlanFile.{IsPlanText, SpellsOnePlan}
use Rattle.settlement.specs.declared.claim.Claim.{Claim}
use Rattle.intake_csv.specs.Laws.{FilesHaveRows}
use Rattle.intake_csv.specs.Rows.{AreRowsOf}
use Rattle.intake_csv.specs.declared.rows.Row.{Row}
use Rattle.intake_csv.specs.declared.rows.Row.TheVariants.{Good, Bad}
use Rattle.claim_gate.specs.Terms.{AreClaimsOf, TermsParts}
use Rattle.claim_gate.proofs.SomeTerms.{some_terms}
use Rattle.explanation.specs.Explanation.{IsMissing}
use Rattle.explanation.specs.Finding.{found_in, places_in, places_of}
use Rattle.explanation.specs.Laws.{FoundClaimHasRecord}
use Rattle.explanation.specs.declared.finding.FoundClaim.{FoundClaim}
use Rattle.explanation.specs.declared.row.Place.{Place}
use Rattle.explanation.proofs.Rows.{row_numbered, zip_at, zip_long}

-- the rows of files, from their claims
rows_of_files : (names : List InputData) (texts : List (List ℕ)) (lists : List (List Claim)) → AllZip (AreClaimsOf names) texts lists
    → (files : List (List Row)) × AllZip (AreRowsOf names) texts files
rows_of_files names [] [] all = ([], all)
rows_of_files names [] (claims ∷ lists) all = absurd all
rows_of_files names (text ∷ texts) [] all = absurd all
rows_of_files names (text ∷ texts) (claims ∷ lists) all = let others = rows_of_files names texts lists all.1 in (all.0.rows ∷ others.0, (all.0.are_rows, others.1))

-- the place is that of a claim among these rows of the provider's file
record IsAmong (provider : ℕ) (rows : List Row) (place : Place) : Type 0 where
  provider_is : place.provider ≡ provider
  index : ℕ
  inner : ℕ
  claim : Claim
  located : slice_get rows index ≡ Some (Good place.number inner claim)

later : (provider : ℕ) (row : Row) (rows : List Row) (place : Place) → IsAmong provider rows place → IsAmong provider (row ∷ rows) place
later provider row rows place is = record { provider_is = is.provider_is; index = suc is.index; inner = is.inner; claim = is.claim; located = is.located }

among : (id : List ℕ) (provider : ℕ) (rows : List Row) (place : Place) (others : List Place) → places_in id provider rows ≡ place ∷ others → IsAmong provider rows place
among id provider [] place others is = absurd (cc is)
among id provider (Bad number fault ∷ rows) place others is = later provider (Bad number fault) rows place (among id provider rows place others is)
among id provider (Good number inner claim ∷ rows) place others is = elim (cases_Bool (bytes_eq claim.id id)) [
  | inl own ↦
      let whole : record { provider = provider; number = number } ∷ places_in id provider rows ≡ place ∷ others = rw own at is in
      let same : record { provider = provider; number = number } ≡ place = cc whole in
      record {
        provider_is = sym (ap (λ (p : Place). p.provider) same);
        index = 0;
        inner = inner;
        claim = claim;
        located = ap (λ n. Some (Good n inner claim)) (ap (λ (p : Place). p.number) same);
      }
  | inr other ↦ later provider (Good number inner claim) rows place (among id provider rows place others (rw other at is))
]

-- the place is that of a claim in one of these files, of which the first is this provider's
record IsInFiles (provider : ℕ) (files : List (List Row)) (place : Place) : Type 0 where
  index : ℕ
  within : index < length files
  row : IsAmong (provider + index) (get_or files index []) place

in_files : (id : List ℕ) (provider : ℕ) (files : List (List Row)) (place : Place) (others : List Place) → places_of id provider files ≡ place ∷ others → IsInFiles provider files place
in_files id provider [] place others is = absurd (cc is)
in_files id provider (rows ∷ files) place others is = by (λ same. in_files id (suc provider) files place others same) (places_in id provider rows) refl
  where
    by : (places_of id (suc provider) files ≡ place ∷ others → IsInFiles (suc provider) files place) → (own : List Place) → places_in id provider rows ≡ own
        → IsInFiles provider (rows ∷ files) place
    by further_on [] none =
        let further = further_on (sym (ap (λ ps. ps ++ places_of id (suc provider) files) none) ∙ is) in
        let same : suc provider + further.index ≡ provider + suc further.index = omega arith in
        let within = further.within in
        record {
          index = suc further.index;
          within = omega (arith, within);
          row = subst (λ p. IsAmong p (get_or files further.index []) place) same further.row;
        }
    by further_on (p ∷ ps) some =
        let whole : p ∷ (ps ++ places_of id (suc provider) files) ≡ place ∷ others = sym (ap (λ qs. qs ++ places_of id (suc provider) files) some) ∙ is in
        let first : p ≡ place = cc whole in
        let same : provider ≡ provider + 0 = omega arith in
        record {
          index = 0;
          within = omega arith;
          row = subst (λ q. IsAmong q rows place) same (among id provider rows place ps (some ∙ ap (λ q. q ∷ ps) first));
        }

-- the first place of those that are found
found_first_place : (places : List Place) (found : FoundClaim) → Some found ≡ found_in places → (others : List Place) × (places ≡ found.place ∷ others)
found_first_place [] found is = absurd (cc is)
found_first_place (place ∷ others) found is =
    let same : record { place = place; others = length others } ≡ found = sym (same_Some _ _ is) in
    (others, ap (λ p. p ∷ others) (ap (λ (f : FoundClaim). f.place) same))

-- where the rows of the files have the place, no record is missing there
not_missing : (parts : TermsParts) (files : List (List Row)) (place : Place) → AllZip (AreRowsOf parts.plan.names) parts.files files → IsInFiles 1 files place → IsMissing parts place → ⊥
not_missing parts files place all is missing = by missing
  where
    rows : List Row
    rows = get_or files is.index []

    provider : place.provider ≡ 1 + is.index
    provider = is.row.provider_is

    size : length parts.files ≡ length files
    size = zip_long (AreRowsOf parts.plan.names) parts.files files all

    are : AreRowsOf parts.plan.names (get_or parts.files is.index []) rows
    are = let within = is.within in zip_at (AreRowsOf parts.plan.names) parts.files files is.index [] [] all (omega (arith, within, size))

    number : place.number ≡ is.row.index + 1
    number = row_numbered parts.plan.names (get_or parts.files is.index []) rows is.row.index (Good place.number is.row.inner is.row.claim) are is.row.located

    by : IsMissing parts place → ⊥
    by (inl none) = let within = is.within in none (record { least = omega (arith, provider); most = omega (arith, provider, within, size); counted = omega (arith, number) })
    by (inr none) =
        let file : place.provider - 1 ≡ is.index = omega (arith, provider) in
        let at : place.number - 1 ≡ is.row.index = omega (arith, number) in
        let nothing : None ≡ slice_get rows (place.number - 1) = none rows (subst (λ i. AreRowsOf parts.plan.names (get_or parts.files i []) rows) (sym file) are) in
        none-some _ (nothing ∙ ap (slice_get rows) at ∙ is.row.located)

pub found_has_record : SpellsOnePlan → FilesHaveRows → FoundClaimHasRecord
found_has_record one law order searched texts id found plan_is files_are is lacks =
    let mine = is.over.are_terms in
    let theirs = lacks.terms.over.are_terms in
    let spelled = subst (λ text. IsPlanText text is.over.plan) plan_is is.over.spelled in
    let same_plan : is.parts.plan ≡ lacks.parts.plan = mine.plan_is ∙ one texts.plan is.over.plan lacks.terms.over.plan spelled lacks.terms.over.spelled ∙ sym theirs.plan_is in
    let same_files : is.parts.files ≡ lacks.parts.files = mine.files_are ∙ files_are ∙ sym theirs.files_are in
    some_terms law is.parts mine.holds (λ T terms.
    let files = rows_of_files is.parts.plan.names is.parts.files T.files terms.files in
    let first = found_first_place (places_of id 1 files.0) found (is.found_is files.0 files.1) in
    let there = in_files id 1 files.0 found.place first.0 first.1 in
    let rows =
    subst (λ (p : PlanParts). AllZip (AreRowsOf p.names) lacks.parts.files files.0) same_plan
    (subst (λ ts. AllZip (AreRowsOf is.parts.plan.names) ts files.0) same_files files.1) in
    not_missing lacks.parts files.0 found.place rows there lacks.missing)
