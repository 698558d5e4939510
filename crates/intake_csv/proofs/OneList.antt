-- A text has at most one list of rows under a plan.
use Rattle.std.proofs.Common.{◌≡◌, ◌+◌, ℕ, List, [], ◌∷◌, refl, sym, ap, ◌∙◌, arith}
use Rattle.fixpoint.specs.NumberText.{DenotesAtMostOne}
use Rattle.feel_tests.specs.Plain.{SpellsOnePlain}
use Rattle.tables.specs.Plan.{IsPlan, PlanParts}
use Rattle.intake_csv.specs.Columns.{claim_columns}
use Rattle.intake_csv.specs.Laws.{LieApart}
use Rattle.intake_csv.specs.Records.{Fields}
use Rattle.intake_csv.specs.Rows.{AreRows, AreRowsOf, GivesRow, RowsLeft, claims_in}
use Rattle.intake_csv.specs.declared.column.Layout.{Layout}
use Rattle.intake_csv.specs.declared.records.Stage.TheVariants.{Reading}
use Rattle.intake_csv.specs.declared.rows.Row.{Row}
use Rattle.intake_csv.proofs.OneFile.{headered_file-one}
use Rattle.intake_csv.proofs.OneRow.{begin-with, first-row, rows-following}
use Rattle.intake_csv.proofs.PlanColumns.{columns-apart-under}

module _ (one : DenotesAtMostOne) (plain : SpellsOnePlain) where
  -- records have at most one list of rows if the columns have distinct places
  rows-one : (layout : Layout) (number place : ℕ) (records : List Fields) (rows others : List Row) → LieApart layout.columns → AreRows layout number place records rows
      → AreRows layout number place records others → rows ≡ others
  rows-one layout number place [] [] [] apart h k = refl
  rows-one layout number place [] [] (o ∷ os) apart h k = absurd (omega (arith, k.as_many))
  rows-one layout number place [] (r ∷ rs) others apart h k = absurd (omega (arith, h.as_many))
  rows-one layout number place (f ∷ fs) [] others apart h k = absurd (omega (arith, h.as_many))
  rows-one layout number place (f ∷ fs) (r ∷ rs) others apart h k =
      let old : RowsLeft = record { layout = layout; number = number; place = place; records = f ∷ fs; stage = Reading } in
      let new : RowsLeft = record { layout = layout; number = number + 1; place = place + claims_in r; records = fs; stage = Reading } in
      let is_row = first-row old new f r rs refl h in
      let gives : GivesRow old new r = record { fields = f; next = refl; is_row = is_row; layout = refl; number = refl; place = refl; stage = refl } in
      let begins = begin-with one plain old new r others apart gives k in
      let following = rows-following old new r r rs gives refl h in
      ap (λ xs. r ∷ xs) (rows-one layout (number + 1) (place + claims_in r) fs rs begins.rest apart following begins.rest_left) ∙ sym begins.rows_are

  pub list-one : (plan : PlanParts) (text : List ℕ) (rows others : List Row) → IsPlan plan → AreRowsOf plan.names text rows → AreRowsOf plan.names text others → rows ≡ others
  list-one plan text rows others is h k =
      let same = headered_file-one (claim_columns plan.names) text h.layout k.layout h.records k.records h.headered_file k.headered_file in
      let apart = columns-apart-under plan h.headered_file.header h.layout.columns is h.headered_file.columns in
      rows-one h.layout 1 0 h.records rows others apart h.are_rows (rw (same.0, same.1) k.are_rows)
