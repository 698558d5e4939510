use Rattle.std.proofs.Common.{arith}
use Rattle.std.proofs.lemmas.Grind.{common_steps}
use Rattle.std.proofs.lemmas.Result.{on_ok_weaker}
use Rattle.explanation.proofs.Appending.{computed, stopped}
use Rattle.explanation.proofs.claim_facts.add_computation.Goals as goal

pub returns-in-Some : goal.returns-in-Some
returns-in-Some c =
    let plan = c.args.plan.now in
    let found = rw (c.in-Some.is, c.tables.ensures.tables) at c.in_ok-answers.ensures.answers in
    let listed = rw c.tables.ensures.tables at c.in_ok-answers.ensures.facts in
    let settled = rw c.new-env.ensures at c.add_settlement.ensures in
    on_ok_weaker c.add_settlement.result
    (λ last. computed c.args.facts.now c.add_tables.new.facts c.add_settlement.new.facts plan c.args.given.now c.args.acc.now c.args.decided.now c.in-Some.answers found listed last) settled

pub returns-in-None : goal.returns-in-None
returns-in-None c =
    let found = rw (c.in-None.is, c.tables.ensures.tables) at c.in_ok-answers.ensures.answers in
    let listed = rw c.tables.ensures.tables at c.in_ok-answers.ensures.facts in
    stopped c.args.facts.now c.add_tables.new.facts c.args.plan.now c.args.given.now c.args.acc.now c.args.decided.now found listed

pub add_settlement-requires : goal.add_settlement-requires
add_settlement-requires c = grind (arith, common_steps)
