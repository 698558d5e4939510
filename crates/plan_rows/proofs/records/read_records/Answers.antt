use Rattle.std.proofs.Common.{refl}
use Rattle.plan_rows.proofs.Reading.{one_more_record, all_records}
use Rattle.plan_rows.proofs.records.read_records.Goals as goal

pub loop-record-init : goal.loop-record-init
loop-record-init c = rw c.new-records.ensures.items (c.new_reader-reader.ensures, refl)

pub loop-record-preserved : goal.loop-record-preserved
loop-record-preserved c =
    let reads = rw c.if-branch.true at c.in_ok-read_record.ensures in
    let step = one_more_record _ _ c.loop-record.records.items _ c.read_record.new.row c.in_ok-push.ensures.items c.loop-record.invariant.1 (reads _ c.loop-record.invariant.0) in
    (step.left, step.listed)

pub loop-record-smaller : goal.loop-record-smaller
loop-record-smaller c =
    let reads = rw c.if-branch.true at c.in_ok-read_record.ensures in
    let step = one_more_record _ _ c.loop-record.records.items _ c.read_record.new.row c.in_ok-push.ensures.items c.loop-record.invariant.1 (reads _ c.loop-record.invariant.0) in
    step.shorter

pub returns : goal.returns
returns c =
    let reads = rw c.if-branch.false at c.in_ok-read_record.ensures in
    all_records _ _ c.loop-record.invariant.1 (reads _ c.loop-record.invariant.0)
