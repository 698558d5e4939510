use Rattle.std.proofs.Common.{arith}
use Rattle.crew.proofs.Lefts.{left_after, left_first, next_claim}
use Rattle.test_run.proofs.threads.earlier.first_two.Goals as goal

pub returns-clause-first : goal.returns-clause-first
returns-clause-first g c T is =
    let start = left_first c.reader_begins_with_all_rows.ensures c.args.terms.now T 1 c.in-Ok.rows is (omega arith) c.requires c.in-Ok.ensures.start in
    let some = rw c.in-Ok-Some-Good.field-0-is at c.in-Ok-Some-Good.ensures.gives in
    let gives = rw c.in-Ok-Some-Good.field-0-0-is at some in
    rw c.boxed_claim_of-first.ensures (next_claim c.given_row_has_the_claim.ensures T 1 0 c.in-Ok.rows c.next.new.self c.in-Ok-Some-Good.field-0-0-0
    c.in-Ok-Some-Good.field-0-0-1 c.in-Ok-Some-Good.claim start gives)

pub returns-clause-second : goal.returns-clause-second
returns-clause-second g c T is =
    let start = left_first c.reader_begins_with_all_rows.ensures c.args.terms.now T 1 c.in-Ok.rows is (omega arith) c.requires c.in-Ok.ensures.start in
    let some = rw c.in-Ok-Some-Good.field-0-is at c.in-Ok-Some-Good.ensures.gives in
    let gives = rw c.in-Ok-Some-Good.field-0-0-is at some in
    let following = left_after c.given_row_has_the_claim.ensures T 1 0 c.in-Ok.rows c.next.new.self c.in-Ok-Some-Good.field-0-0-0
    c.in-Ok-Some-Good.field-0-0-1 c.in-Ok-Some-Good.claim start gives in
    let later = rw c.in-Ok-Some-Good-next.field-0-is at c.in-Ok-Some-Good-next.ensures.gives in
    let more = rw c.in-Ok-Some-Good-next.field-0-0-is at later in
    rw c.boxed_claim_of-second.ensures (next_claim c.given_row_has_the_claim.ensures T 1 1 c.next.new.self c.next-2.new.self c.in-Ok-Some-Good-next.field-0-0-0
    c.in-Ok-Some-Good-next.field-0-0-1 c.in-Ok-Some-Good-next.claim following more)
