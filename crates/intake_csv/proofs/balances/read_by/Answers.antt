use Rattle.intake_csv.proofs.AllRecords.{read-at, records-few}
use Rattle.std.proofs.Common.{arith, rules, ap, length, ◌+◌}
use Rattle.intake_csv.specs.Records.{records_of, remaining, RecordsLeft}
use Rattle.intake_csv.proofs.Entries.{read-all, read-next, refused-next, read_none}
use Rattle.intake_csv.specs.Columns.{balance_columns}
use Rattle.intake_csv.proofs.Shapes.{contents-of}
use Rattle.intake_csv.proofs.balances.read_by.Goals as goal

pub read-requires-in-loop-record-clause-balances : goal.read-requires-in-loop-record-clause-balances
read-requires-in-loop-record-clause-balances c =
    let s = c.in_ok-headered_file.ensures.ok in
    contents-of s.is_headered_file.header (balance_columns c.args.version) c.in_ok-headered_file.headered_file.layout.columns s.is_headered_file.columns

pub loop-record-preserved : goal.loop-record-preserved
loop-record-preserved c =
    let reads = rw (c.loop-record.invariant.0, c.if-branch.true) at c.in_ok-read.ensures.reads in
    let step = rw c.in-Ok.is at c.in_ok-read-2.ensures.entry in (
      reads.1,
      read-next c.args.version c.in_ok-headered_file.headered_file.layout (records_of c.args.text.now) c.loop-record.number c.read.new.self (remaining c.read.new.records) c.loop-record.balances c.read-in-loop-record.new.self
          reads.0 c.loop-record.invariant.1 step,
    )

pub returns-in-Err-clause-fault : goal.returns-in-Err-clause-fault
returns-in-Err-clause-fault c =
    let s = c.in_ok-headered_file.ensures.ok in
    let reads = rw (c.loop-record.invariant.0, c.if-branch.true) at c.in_ok-read.ensures.reads in
    let reason = rw c.in-Err.is at c.in_ok-read-2.ensures.refused in
    refused-next c.args.version c.args.text.now c.in_ok-headered_file.headered_file.layout (records_of c.args.text.now) c.loop-record.number c.read.new.self (remaining c.read.new.records) c.loop-record.balances
    c.in-Err.fault s.is_headered_file reads.0 c.loop-record.invariant.1 reason

pub returns-clause-ok : goal.returns-clause-ok
returns-clause-ok c =
    let s = c.in_ok-headered_file.ensures.ok in
    let reads = rw (c.loop-record.invariant.0, c.if-branch.false) at c.in_ok-read.ensures.reads in
    read-all c.args.version c.args.text.now c.in_ok-headered_file.headered_file.layout (records_of c.args.text.now) c.loop-record.number c.loop-record.balances s.is_headered_file reads.0 c.loop-record.invariant.1

pub loop-record-init : goal.loop-record-init
loop-record-init c = (c.in_ok-headered_file.ensures.ok.records, search (rules, read_none))

pub read-requires-in-loop-record-clause-within : goal.read-requires-in-loop-record-clause-within
read-requires-in-loop-record-clause-within c = c.in_ok-headered_file.ensures.ok.within

pub loop-record-smaller : goal.loop-record-smaller
loop-record-smaller c =
    let reads = rw c.if-branch.true at c.in_ok-read.ensures.reads in
    omega (arith, ap length reads.0)

pub overflow_add-number : goal.overflow_add-number
overflow_add-number c =
    let start = c.loop-record.invariant.0 in
    let reads = rw c.if-branch.true at c.in_ok-read.ensures.reads in
    let given = ap (λ (r : RecordsLeft). r.given) start in
    let at = read-at c.loop-record.records c.read.new.records (c.loop-record.number + 1) c.read.new.self given reads in
    let within = rw (ap (λ (r : RecordsLeft). r.text) start) at at.0 in
    omega (arith, within, records-few c.args.text.now, c.in_ok-headered_file.ensures.ok.small)
