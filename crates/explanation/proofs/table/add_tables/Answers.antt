use Rattle.std.proofs.Common.{arith}
use Rattle.std.proofs.lemmas.Grind.{common_steps}
use Rattle.explanation.proofs.Listing.{between_next}
use Rattle.explanation.proofs.table.add_tables.Goals as goal

pub loop-table-preserved : goal.loop-table-preserved
loop-table-preserved c =
    between_next c.args.given.now c.args.tables.now c.args.facts.now c.loop-table.facts c.loop-table.answers c.loop-table.table-index c.table-item.result c.loop-table.invariant
    c.loop-table-test.true c.table-item.is c.in-Some.next (rw (c.in-Some.is, c.as_slice.ensures) at c.in_ok-next.ensures.answers) c.add_table.new.facts
    (rw c.as_slice.ensures at c.in_ok-next.ensures.facts) c.push.new.self (rw c.from_sequence.ensures at c.in_ok-push-in-Some.ensures.ok)

pub returns-in-None-clause-facts : goal.returns-in-None-clause-facts
returns-in-None-clause-facts c = grind (arith, common_steps)

pub returns-in-None-clause-answers : goal.returns-in-None-clause-answers
returns-in-None-clause-answers c = grind (arith, common_steps)

pub returns-clause-facts : goal.returns-clause-facts
returns-clause-facts c = grind (arith, common_steps)

pub returns-clause-answers : goal.returns-clause-answers
returns-clause-answers c = grind (arith, common_steps)
