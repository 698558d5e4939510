use Rattle.std.proofs.lemmas.Option.{none-some}
use Rattle.std.proofs.Common.{◌≡◌, None, sym, ◌∙◌, IsUtf8, rules}
use Rattle.csv.specs.Records.{field_at}
use Rattle.intake_csv.proofs.Lists.{field_at-within}
use Rattle.intake_csv.proofs.column_values.field_of_column.Goals as goal

pub unreachable-requires : goal.unreachable-requires
unreachable-requires c =
    let found = field_at-within c.args.row.now c.args.column.place c.requires in
    let none : field_at c.args.row.now c.args.column.place ≡ None = c.text.ensures.lacking c.in_default.is in
    none-some _ (sym none ∙ found)

pub returns-in_default-found-clause-faulty : goal.returns-in_default-found-clause-faulty
returns-in_default-found-clause-faulty c =
    let none = rw c.in_default-found.is at c.in-Some.ensures.none in
    record { bytes = none.0; field = none.1; faulty = none.2 }

pub returns-clause-text : goal.returns-clause-text
returns-clause-text c =
    let utf8 : IsUtf8 c.in-Ok.text.now = search rules in
    (rw c.in-Ok.is at c.in-Some.ensures.text, (utf8, c.if-text-gt-TEXT_LIMIT_BYTES.false))
