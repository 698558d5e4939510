use Rattle.csv.specs.Records.{fields_of}
use Rattle.plan_rows.proofs.Givens.{column_gives, column_gives_none, gives_next, gives_none, gives_skip, read_before, unread_at}
use Rattle.plan_rows.proofs.given.read_given.Goals as goal

pub loop-index-init : goal.loop-index-init
loop-index-init c = rw c.in_ok-inputs.ensures (gives_none c.args.plan.now.names c.args.columns.now (fields_of c.args.row.now))

pub loop-index-preserved-in_default : goal.loop-index-preserved-in_default
loop-index-preserved-in_default c = gives_skip _ _ _ _ _ c.loop-index.invariant (column_gives_none c.args.columns.now c.loop-index.index _ c.loop-index-test.true c.in_default.not-Given)

pub kind_at-requires : goal.kind_at-requires
kind_at-requires c = c.requires.named c.loop-index.index c.in-Given.place (column_gives c.args.columns.now c.loop-index.index _ _ c.loop-index-test.true c.in-Given.is)

pub returns-in-None-clause-unread : goal.returns-in-None-clause-unread
returns-in-None-clause-unread c =
    let by = column_gives c.args.columns.now c.loop-index.index _ _ c.loop-index-test.true c.in-Given.is in
    unread_at _ _ _ _ _ _ by c.kind_at.ensures (rw c.in-None.is at c.in_ok-value.ensures.none)

pub loop-index-preserved : goal.loop-index-preserved
loop-index-preserved c =
    let by = column_gives c.args.columns.now c.loop-index.index _ _ c.loop-index-test.true c.in-Given.is in
    let read = rw c.in-Some.is at c.in_ok-value.ensures.value in
    let kind = rw c.in-Some.is at c.in_ok-value.ensures.kind in
    rw c.set.ensures (gives_next _ _ _ _ _ _ _ _ c.requires.apart c.loop-index.invariant by c.kind_at.ensures kind read)

pub returns-in-None-clause-first : goal.returns-in-None-clause-first
returns-in-None-clause-first c = read_before _ _ _ _ _ c.loop-index.invariant
