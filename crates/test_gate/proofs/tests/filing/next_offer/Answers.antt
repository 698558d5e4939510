use Rattle.std.proofs.Common.{arith}
use Rattle.std.proofs.lemmas.Grind.{common_steps}
use Rattle.test_gate.proofs.Filing.{gives}
use Rattle.test_gate.proofs.tests.filing.next_offer.Goals as goal

pub returns-clause-filed : goal.returns-clause-filed
returns-clause-filed g c T is =
    let some = rw c.in-Some-Good.is at c.in_ok-place.ensures.gives in
    let row = rw c.in-Some-Good.field-0-is at some in
    rw c.in_ok-new-in-Some-Good.ensures.value
    ((gives c.given_row_is_the_first.ensures T c.args.provider c.in-Some-Good.field-0-0 c.in-Some-Good.place c.in-Some-Good.claim c.args.rows.now c.next.new.self (c.requires T is) row).filed)

pub returns-clause-reader : goal.returns-clause-reader
returns-clause-reader g c T is =
    let some = rw c.in-Some-Good.is at c.in_ok-place.ensures.gives in
    let row = rw c.in-Some-Good.field-0-is at some in
    (gives c.given_row_is_the_first.ensures T c.args.provider c.in-Some-Good.field-0-0 c.in-Some-Good.place c.in-Some-Good.claim c.args.rows.now c.next.new.self (c.requires T is) row).reader

pub returns-clause-place : goal.returns-clause-place
returns-clause-place g c = grind (arith, common_steps)
