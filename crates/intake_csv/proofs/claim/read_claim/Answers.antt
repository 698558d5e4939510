use Rattle.std.proofs.Common.{subst, ◌≡◌, ◌<◌, length, sym, ◌∙◌}
use Rattle.std.specs.List.{All}
use Rattle.intake_csv.specs.Rows.{IsFaultlessUnder}
use Rattle.intake_csv.proofs.ColumnValues.{one-is-refused}
use Rattle.intake_csv.proofs.claim.read_claim.Goals as goal

pub unreachable-requires : goal.unreachable-requires
unreachable-requires c =
    let row = c.args.row.now in
    let refused = rw c.in_default.is at c.in_ok-claim.ensures.none in
    let validated = rw c.in-None.is at c.in_ok-fault.ensures in
    one-is-refused row c.args.layout.now.columns refused (subst (All (IsFaultlessUnder row)) c.as_slice.ensures validated.1.1)

pub first_fault-requires-clause-within : goal.first_fault-requires-clause-within
first_fault-requires-clause-within c =
    let width : c.args.layout.now.width ≡ length c.args.row.now = sym c.if-len-layout.false ∙ c.len.ensures in
    rw c.as_slice.ensures (subst (λ count. All (λ column. column.place < count) c.args.layout.now.columns) width c.requires.within)

pub claim_of_record-requires-clause-within : goal.claim_of_record-requires-clause-within
claim_of_record-requires-clause-within c =
    let width : c.args.layout.now.width ≡ length c.args.row.now = sym c.if-len-layout.false ∙ c.len.ensures in
    subst (λ count. All (λ column. column.place < count) c.args.layout.now.columns) width c.requires.within
