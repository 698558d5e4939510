-- The readers of the files, and the numbers of the records of claims.
use Rattle.std.proofs.Common.{◌≡◌, ◌+◌, ◌-◌, ◌≤◌, ℕ, List, [], ◌∷◌, ◌++◌, length, get_or, slice_get, Option, Some, None, refl, sym, ap, subst, ◌∙◌, arith}
use Rattle.std.specs.List.{slice_set}
use Rattle.std.proofs.lemmas.List.{length-set, length_push}
use Rattle.std.proofs.lemmas.Option.{none-some, same_Some}
use Rattle.tables.specs.declared.table.InputData.{InputData}
use Rattle.settlement.specs.declared.claim.Claim.{Claim}
use Rattle.intake_csv.specs.Laws.{GivenRowIsTheFirst, LieApart, StartHasTheRows}
use Rattle.intake_csv.specs.Records.{Fields}
use Rattle.intake_csv.specs.RowSummary.{GivesSummary, Reports}
use Rattle.intake_csv.specs.Rows.{Gives, IsAtStart, RowsLeft}
use Rattle.intake_csv.specs.declared.row_summary.IdColumns.{IdColumns}
use Rattle.intake_csv.specs.declared.row_summary.RowSummary.{RowSummary}
use Rattle.intake_csv.specs.declared.row_summary.RowSummary.TheVariants as summary
use Rattle.intake_csv.specs.declared.rows.Row.{Row}
use Rattle.intake_csv.specs.declared.rows.Row.TheVariants.{Good, Bad}
use Rattle.journal.specs.Events.{claim_filed}
use Rattle.claim_gate.specs.Terms.{ForTerms, TermsParts}
use Rattle.ordered_claims.proofs.Lists.{each_after, each_more}
use Rattle.explanation.specs.Cases.{IsNumberOf, IsRowAt}
use Rattle.explanation.specs.Walking.{AreReaders, IsReader}
use Rattle.explanation.proofs.Rows.{past_more, past_none, row_filed, row_found}

pub reader_first : StartHasTheRows → (names : List InputData) (text : List ℕ) (left : RowsLeft) → IsAtStart names text left → LieApart left.layout.columns → IsReader names text left
reader_first law names text left start apart = record { count = 0; number = start.number; past = past_none law names text left start apart }

module _ (first : GivenRowIsTheFirst) (names : List InputData) (text : List ℕ) (old new : RowsLeft) (is : IsReader names text old) (fields : Fields) where
  pub reader_more : (found : RowSummary) → GivesSummary old new fields (Some found) → IsReader names text new
  reader_more found g = by_row g.row g.gives g.reports
    where
      by_row : (row : Option Row) → Gives old new row → Reports fields (Some found) row → IsReader names text new
      by_row None gives reports = absurd reports
      by_row (Some row) gives reports = record {
        count = is.count + 1;
        number = gives.number ∙ ap (λ n. n + 1) is.number;
        past = past_more first names text is.count old new is.past row gives;
      }

  -- the row of a summary is that of its record
  pub row_given : (n p : ℕ) (columns : IdColumns) → GivesSummary old new fields (Some (summary.Good n p columns)) → (claim : Claim) × IsRowAt names text n (Some (Good n p claim))
  row_given n p columns g = by_row g.row g.gives g.reports
    where
      by_row : (row : Option Row) → Gives old new row → Reports fields (Some (summary.Good n p columns)) row → (claim : Claim) × IsRowAt names text n (Some (Good n p claim))
      by_row None gives reports = absurd reports
      by_row (Some (Bad number fault)) gives reports = absurd reports
      by_row (Some (Good number place claim)) gives reports =
          let at : number ≡ is.count + 1 = gives.is_row.0 ∙ is.number in
          let found = row_found first names text is.count old new is.past (Good number place claim) gives number (omega (arith, at)) in
          (claim, λ rows are. (λ i. Some (Good (reports.0 i) (reports.1 i) claim)) ∙ found rows are ∙ ap (λ m. slice_get rows (m - 1)) (sym reports.0))

-- the record of a summary is that of the claim at its place
pub number_found : (parts : TermsParts) (provider place n p : ℕ) (claim : Claim) → 1 ≤ provider → provider ≤ length parts.files
    → IsRowAt parts.plan.names (get_or parts.files (provider - 1) []) n (Some (Good n p claim)) → p ≡ place → ForTerms parts (λ T. IsNumberOf parts T (record { provider = provider; place = place }) n)
number_found parts provider place n p claim least most row same T is other located rows are =
    let there = row_filed parts provider n n p claim least most row T is in
    let claims : claim ≡ other = same_Some claim other (sym there ∙ ap (λ i. claim_filed T (record { provider = provider; place = i })) same ∙ located) in
    (λ i. Some (Good n (sym same i) (sym claims i))) ∙ row rows are

-- the readers of the first files
pub record AreBegun (parts : TermsParts) (count : ℕ) (readers : List RowsLeft) : Type 0 where
  pub as_many : length readers ≡ count
  pub each : (i : ℕ) (left : RowsLeft) → slice_get readers i ≡ Some left → IsReader parts.plan.names (get_or parts.files i []) left

pub begun_none : (parts : TermsParts) → AreBegun parts 0 []
begun_none parts = record { as_many = refl; each = λ i left at. absurd (none-some left at) }

pub begun_more : (parts : TermsParts) (count : ℕ) (readers : List RowsLeft) (left : RowsLeft) → AreBegun parts count readers → IsReader parts.plan.names (get_or parts.files count []) left
    → AreBegun parts (count + 1) (readers ++ left ∷ [])
begun_more parts count readers left begun is = record {
  as_many = length_push readers left ∙ ap (λ n. n + 1) begun.as_many;
  each = each_more (λ i (l : RowsLeft). IsReader parts.plan.names (get_or parts.files i []) l) readers left
      (subst (λ n. IsReader parts.plan.names (get_or parts.files n []) left) (sym begun.as_many) is) begun.each;
}

pub all_begun : (parts : TermsParts) (count : ℕ) (readers : List RowsLeft) → AreBegun parts count readers → count ≡ length parts.files → AreReaders parts readers
all_begun parts count readers begun all = record { as_many = begun.as_many ∙ all; each = begun.each }

-- one of the readers has gone on
pub reader_set : (parts : TermsParts) (readers : List RowsLeft) (i : ℕ) (old new : RowsLeft) → AreReaders parts readers → slice_get readers i ≡ Some old
    → IsReader parts.plan.names (get_or parts.files i []) new → AreReaders parts (slice_set readers i new)
reader_set parts readers i old new are there is = record {
  as_many = length-set readers i new ∙ are.as_many;
  each = each_after (λ j (l : RowsLeft). IsReader parts.plan.names (get_or parts.files j []) l) readers i old new there is are.each;
}
