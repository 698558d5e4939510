use Rattle.std.proofs.Common.{◌≡◌, ◌+◌, ℕ, arith, sym, ◌∙◌}
use Rattle.tables.specs.Plan.{has_years}
use Rattle.feel_tests.specs.Calendar.{year_text}
use Rattle.feel_tests.specs.declared.value.Value.TheVariants.{Text}
use Rattle.intake_csv.specs.Columns.{member_place}
use Rattle.intake_csv.proofs.EntryColumns.{following-within, none-read, year-content, year-read}
use Rattle.intake_csv.proofs.entry.year_of_columns.Goals as goal

pub bounds-columns-member_place : goal.bounds-columns-member_place
bounds-columns-member_place c = omega (arith, c.member_place.ensures.value, following-within c.args.version c.args.columns.now c.requires.contents)

pub year_of_column-requires-clause-within : goal.year_of_column-requires-clause-within
year_of_column-requires-clause-within c =
    c.requires.within (c.member_place.result + 1) _ (omega (arith, c.member_place.ensures.value, following-within c.args.version c.args.columns.now c.requires.contents))

pub year_of_column-requires-clause-content : goal.year_of_column-requires-clause-content
year_of_column-requires-clause-content c =
    rw c.member_place.ensures.value (year-content c.args.version c.args.columns.now c.requires.contents _ (sym c.has_years.ensures ∙ c.if-has_years.true))

pub returns-then-has_years-clause-year : goal.returns-then-has_years-clause-year
returns-then-has_years-clause-year c =
    let at : c.member_place.result + 1 ≡ member_place c.args.version + 1 = omega (arith, c.member_place.ensures.value) in
    year-read (has_years c.args.version) c.args.row.now c.args.columns.now (c.member_place.result + 1) (member_place c.args.version + 1) _ c.year_of_column.result
    (sym c.has_years.ensures ∙ c.if-has_years.true) at c.year_of_column.ensures.read c.year_of_column.ensures.in_range

pub returns-then-has_years-clause-none : goal.returns-then-has_years-clause-none
returns-then-has_years-clause-none c =
    none-read (λ (year : ℕ). Text (year_text year)) c.args.row.now c.args.columns.now (c.member_place.result + 1) _ c.year_of_column.result
    (omega (arith, c.member_place.ensures.value, following-within c.args.version c.args.columns.now c.requires.contents)) c.year_of_column.ensures.read
