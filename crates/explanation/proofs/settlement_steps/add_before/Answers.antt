use Rattle.std.proofs.Common.{arith}
use Rattle.std.proofs.lemmas.Grind.{common_steps}
use Rattle.std.proofs.lemmas.Result.{on_ok_weaker}
use Rattle.explanation.proofs.Accumulators.{first_added, last_added}
use Rattle.explanation.proofs.settlement_steps.add_before.Goals as goal

pub returns-in_default : goal.returns-in_default
returns-in_default c = first_added _ c.args.claim.now.family (record { acc = c.args.acc.now; last = c.args.last }) c.args.facts.now c.add_accumulators.new.facts c.in_ok-add_accumulators.ensures c.in_default.is

pub returns : goal.returns
returns c =
    on_ok_weaker c.add_number-2.result
    (λ last. last_added _ c.args.claim.now.family (record { acc = c.args.acc.now; last = c.args.last }) c.args.facts.now c.add_accumulators.new.facts c.in_ok-add_accumulators.ensures c.in-Some.place c.add_number.new.self c.add_number-2.new.self
    c.in-Some.is c.in_ok-add_number.ensures last)
    c.add_number-2.ensures

pub overflow_cast-place-2 : goal.overflow_cast-place-2
overflow_cast-place-2 c = grind (arith, common_steps)

pub overflow_cast-place : goal.overflow_cast-place
overflow_cast-place c = grind (arith, common_steps)
