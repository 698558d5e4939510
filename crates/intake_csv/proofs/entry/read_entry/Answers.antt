use Rattle.std.proofs.Common.{◌≡◌, ◌<◌, length, subst, sym, ◌∙◌}
use Rattle.std.specs.List.{All}
use Rattle.intake_csv.proofs.ColumnValues.{one-is-refused}
use Rattle.intake_csv.proofs.entry.read_entry.Goals as goal

pub unreachable-requires : goal.unreachable-requires
unreachable-requires c =
    let refused = rw c.in_default.is at c.entry_of_columns.ensures.none in
    let validated = rw c.in-None.is at c.in_ok-fault.ensures in
    one-is-refused c.args.row.now c.as_slice-columns.result.now refused validated.1.1

pub entry_of_columns-requires-clause-within : goal.entry_of_columns-requires-clause-within
entry_of_columns-requires-clause-within c =
    let width : c.args.layout.now.width ≡ length c.args.row.now = sym c.if-len-layout.false ∙ c.len.ensures in
    rw c.as_slice-columns.ensures (subst (λ count. All (λ column. column.place < count) c.args.layout.now.columns) width c.requires.within)

pub first_fault-requires-clause-within : goal.first_fault-requires-clause-within
first_fault-requires-clause-within c =
    let width : c.args.layout.now.width ≡ length c.args.row.now = sym c.if-len-layout.false ∙ c.len.ensures in
    rw c.as_slice-columns.ensures (subst (λ count. All (λ column. column.place < count) c.args.layout.now.columns) width c.requires.within)

pub returns-in-Some-clause-entry : goal.returns-in-Some-clause-entry
returns-in-Some-clause-entry c =
    let width : length c.args.row.now ≡ c.args.layout.now.width = sym c.len.ensures ∙ c.if-len-layout.false in
    record { kept = c.in-Some.ensures.kept; values = (width, rw c.as_slice-columns.ensures at c.in-Some.ensures.values) }
