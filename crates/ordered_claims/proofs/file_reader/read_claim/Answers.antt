use Rattle.std.proofs.Common.{◌≡◌, ◌<◌, ◌^◌, ap, arith, length, rules}
use Rattle.ordered_claims.proofs.Reading.{after_refused, read_none, read_some, skips_none}
use Rattle.ordered_claims.proofs.file_reader.read_claim.Goals as goal

pub records-init : goal.records-init
records-init c = skips_none c.args.rows.now c.requires.within

pub returns-in_default : goal.returns-in_default
returns-in_default c =
    let given = rw c.in_default.is at c.in_ok-row.ensures.gives in
    read_none c.no_records_give_no_rows.ensures c.args.rows.now c.records.rows c.next_in_spare.new.self c.records.invariant c.requires.fits given.0 given.1

pub returns-in-Good : goal.returns-in-Good
returns-in-Good c =
    let given = rw c.in-Some.is at c.in_ok-row.ensures.gives in
    let some = rw c.in-Good.is at given in
    let number : c.in-Good.number < 2 ^ 64 = search rules in
    let claim : c.in_ok-claim.claim ≡ c.in-Good.claim = c.in_ok-claim.ensures.value in
    rw claim
    (read_some c.given_row_has_the_claim.ensures c.args.rows.now c.records.rows c.next_in_spare.new.self c.in-Good.number c.in-Good.place c.in-Good.claim c.records.invariant some number)

pub records-smaller : goal.records-smaller
records-smaller c =
    let given = rw c.in-Some.is at c.in_ok-row.ensures.gives in
    let some = rw c.in_default-row.is at given in
    let shorter = ap length some.next in
    omega (arith, shorter)

pub records-preserved : goal.records-preserved
records-preserved c =
    let given = rw c.in-Some.is at c.in_ok-row.ensures.gives in
    let some = rw c.in_default-row.is at given in
    after_refused c.given_row_has_the_claim.ensures c.args.rows.now c.records.rows c.next_in_spare.new.self c.in_default-row.field-0 c.in_default-row.field-1 c.records.invariant some
