use Rattle.std.proofs.lemmas.Grind.{common_steps}
use Rattle.std.proofs.Common.{◌-◌, ◌<◌, length, drop, take, arith, subst, sym}
use Rattle.std.specs.List.{All, Any}
use Rattle.intake_csv.specs.Validated.{IsRefusedUnder}
use Rattle.intake_csv.specs.declared.column.Column.{Column}
use Rattle.intake_csv.proofs.Lists.{all-within, any-first, any-within}
use Rattle.intake_csv.proofs.ColumnValues.{ReportsRefused, refused-among}
use Rattle.intake_csv.proofs.claim.claim_of_record.Goals as goal

pub returns-then-not-families-clause-none : goal.returns-then-not-families-clause-none
returns-then-not-families-clause-none c =
    let row = c.args.row.now in
    let columns = c.as_slice.result.now in
    subst (λ all. ReportsRefused row all c.claim_after_id.result) c.as_slice.ensures
    (refused-among row _ columns c.claim_after_id.result (any-within (IsRefusedUnder row) 1 _ columns) c.claim_after_id.ensures.none)

pub text_of_column-requires-2-clause-within : goal.text_of_column-requires-2-clause-within
text_of_column-requires-2-clause-within c =
    let is_within : Column → Type 0 = λ column. column.place < length c.args.row.now in
    let all = subst (All is_within) (sym c.as_slice.ensures) c.requires.within in
    let columns = c.as_slice.result.now in
    let some : 0 < length (take (length columns - 1) (drop 1 columns)) = omega (arith, c.in-len1-up-following.len_at_least) in
    all-within is_within 1 (length columns - 1) columns all 0 _ some

pub returns-in_default-3-clause-none : goal.returns-in_default-3-clause-none
returns-in_default-3-clause-none c =
    let refused = rw c.in_default-3.is at c.in_ok-family.ensures in
    let is_refused = IsRefusedUnder c.args.row.now in
    let columns = c.as_slice.result.now in
    subst (Any is_refused) c.as_slice.ensures (any-within is_refused 1 _ columns (any-first is_refused _ _ c.in-len1-up-following.len_at_least refused))

pub claim_after_id-requires-2-clause-within : goal.claim_after_id-requires-2-clause-within
claim_after_id-requires-2-clause-within c =
    let is_within : Column → Type 0 = λ column. column.place < length c.args.row.now in
    let all = subst (All is_within) (sym c.as_slice.ensures) c.requires.within in
    let columns = c.as_slice.result.now in
    let following = take (length columns - 1) (drop 1 columns) in
    all-within is_within 1 (length following - 1) following (all-within is_within 1 (length columns - 1) columns all)

pub returns-clause-none : goal.returns-clause-none
returns-clause-none c =
    let row = c.args.row.now in
    let columns = c.as_slice.result.now in
    let following = take (length columns - 1) (drop 1 columns) in
    subst (λ all. ReportsRefused row all c.claim_after_id-2.result) c.as_slice.ensures
    (refused-among row _ columns c.claim_after_id-2.result
    (λ refused. any-within (IsRefusedUnder row) 1 (length columns - 1) columns (any-within (IsRefusedUnder row) 1 _ following refused)) c.claim_after_id-2.ensures.none)

pub returns-clause-claim : goal.returns-clause-claim
returns-clause-claim c = grind (arith, common_steps)

pub claim_after_id-requires-2-clause-columns : goal.claim_after_id-requires-2-clause-columns
claim_after_id-requires-2-clause-columns c = grind (arith, common_steps)

pub unreachable-requires-in_default-following : goal.unreachable-requires-in_default-following
unreachable-requires-in_default-following c = grind (arith, common_steps)

pub returns-then-not-families-clause-claim : goal.returns-then-not-families-clause-claim
returns-then-not-families-clause-claim c = grind (arith, common_steps)

pub claim_after_id-requires-clause-columns : goal.claim_after_id-requires-clause-columns
claim_after_id-requires-clause-columns c = grind (arith, common_steps)

pub unreachable-requires : goal.unreachable-requires
unreachable-requires c = grind (arith, common_steps)

pub claim_after_id-requires-clause-within : goal.claim_after_id-requires-clause-within
claim_after_id-requires-clause-within c =
    let is_within : Column → Type 0 = λ column. column.place < length c.args.row.now in
    all-within is_within 1 _ c.as_slice.result.now (subst (All is_within) (sym c.as_slice.ensures) c.requires.within)

pub text_of_column-requires-clause-within : goal.text_of_column-requires-clause-within
text_of_column-requires-clause-within c =
    let is_within : Column → Type 0 = λ column. column.place < length c.args.row.now in
    subst (All is_within) (sym c.as_slice.ensures) c.requires.within 0 _ (omega (arith, c.in-len1-up.len_at_least))

pub returns-in_default-2-clause-none : goal.returns-in_default-2-clause-none
returns-in_default-2-clause-none c =
    let refused = rw c.in_default-2.is at c.in_ok-id.ensures in
    let is_refused = IsRefusedUnder c.args.row.now in
    subst (Any is_refused) c.as_slice.ensures (any-first is_refused _ _ c.in-len1-up.len_at_least refused)
