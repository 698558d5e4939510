use Rattle.std.proofs.Common.{◌≡◌, ◌<◌, ◌^◌, refl, rules, arith}
use Rattle.std.proofs.lemmas.Grind.{common_steps}
use Rattle.crew.proofs.Lefts.{after_last, after_refused, room, skipped, spared, to_offer}
use Rattle.crew.proofs.intake.read_record.Goals as goal

pub returns-in_default : goal.returns-in_default
returns-in_default c terms seen h =
    let base = record c.args.intake.now { spare = c.spare_fields-fields.new.spare } in
    let given = rw c.in_default.is at c.in_ok-row.ensures.gives in
    let read = after_last terms seen base c.next_in_spare.new.self given.0 given.1 (spared terms seen c.args.intake.now base refl h) in
    record { at = read.at; same = read.same; none = read.none }

pub returns-in_default-row : goal.returns-in_default-row
returns-in_default-row c terms seen h =
    let given = rw c.in-Some.is at c.in_ok-row.ensures.gives in
    let some = rw c.in_default-row.is at given in
    let base = record c.args.intake.now { spare = c.spare_fields-fields.new.spare } in
    let read = after_refused c.given_row_has_the_claim.ensures terms seen base c.next_in_spare.new.self c.in_default-row.field-0 c.in_default-row.field-1 some (spared terms seen c.args.intake.now base refl h) in
    record { at = read.at; same = read.same; fewer = read.fewer }

pub returns-then-place-intake : goal.returns-then-place-intake
returns-then-place-intake c terms seen h =
    let given = rw c.in-Some.is at c.in_ok-row.ensures.gives in
    let some = rw c.in-Good.is at given in
    let base = record c.args.intake.now { spare = c.in_spare.new.spare } in
    skipped c.given_row_has_the_claim.ensures c.args.intake.now base c.next_in_spare.new.self c.in-Good.number c.in-Good.place c.in-Good.claim some terms seen c.if-place-intake.true h

pub returns : goal.returns
returns c terms seen h =
    let given = rw c.in-Some.is at c.in_ok-row.ensures.gives in
    let some = rw c.in-Good.is at given in
    let base = record c.args.intake.now { spare = c.in_spare.new.spare } in
    let number : c.in-Good.number < 2 ^ 64 = search rules in
    let small = room c.given_row_has_the_claim.ensures c.args.intake.now base c.next_in_spare.new.self c.in-Good.number c.in-Good.place c.in-Good.claim some number c.requires.place c.requires.fewer in
    let claim : c.in_ok-claim.claim ≡ c.in-Good.claim = c.in_ok-claim.ensures.value in
    rw claim (to_offer c.given_row_has_the_claim.ensures c.args.intake.now base c.next_in_spare.new.self c.in-Good.number c.in-Good.place c.in-Good.claim some terms seen small
    c.if-place-intake.false h)

pub overflow_add-intake : goal.overflow_add-intake
overflow_add-intake c = grind (arith, common_steps)
