use Rattle.std.proofs.Common.{ℕ, List, Bor, sym, ◌∙◌}
use Rattle.tables.specs.Plan.{has_families}
use Rattle.feel_tests.specs.declared.value.Value.TheVariants.{Text}
use Rattle.intake_csv.proofs.EntryColumns.{family-read, first-content, first-within, none-read}
use Rattle.intake_csv.proofs.entry.family_of_columns.Goals as goal

pub bounds-columns-0 : goal.bounds-columns-0
bounds-columns-0 c = first-within c.args.version c.args.columns.now c.requires.contents

pub identifier_of_column-requires-clause-within : goal.identifier_of_column-requires-clause-within
identifier_of_column-requires-clause-within c = c.requires.within 0 _ (first-within c.args.version c.args.columns.now c.requires.contents)

pub identifier_of_column-requires-clause-content : goal.identifier_of_column-requires-clause-content
identifier_of_column-requires-clause-content c = first-content c.args.version c.args.columns.now c.requires.contents _

pub returns-then-has_families-clause-family : goal.returns-then-has_families-clause-family
returns-then-has_families-clause-family c =
    family-read (has_families c.args.version) c.args.row.now c.args.columns.now _ c.args.member.now c.identifier_of_column.result (sym c.has_families.ensures ∙ c.if-has_families.true)
    c.identifier_of_column.ensures.read

pub returns-then-has_families-clause-none : goal.returns-then-has_families-clause-none
returns-then-has_families-clause-none c =
    none-read (λ (text : Bor (List ℕ)). Text text.now) c.args.row.now c.args.columns.now 0 _ c.identifier_of_column.result (first-within c.args.version c.args.columns.now c.requires.contents)
    c.identifier_of_column.ensures.read
