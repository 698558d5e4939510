use Rattle.std.proofs.Common.{refl, arith}
use Rattle.std.proofs.lemmas.Grind.{common_steps}
use Rattle.gate_calls.proofs.Passes.{unchanged}
use Rattle.crew.proofs.intake.run_intake_part.Goals as goal

pub overflow_add-number : goal.overflow_add-number
overflow_add-number g c =
    let most = c.files-files.ensures.terms.count.most in
    omega (arith, c.requires.within, most)

pub run_intake-requires-clause-any_order : goal.run_intake-requires-clause-any_order
run_intake-requires-clause-any_order g c κs within = cc

pub returns-then-number-ne0 : goal.returns-then-number-ne0
returns-then-number-ne0 g c = record {
  goes_on = unchanged (g.G.Gate.has_pass c.args.shared.now.gate.now) g.G.Gate.known c.args.pass c.args.pass c.requires.own refl;
  leaves = tt;
}

pub returns-in_default : goal.returns-in_default
returns-in_default c = grind (arith, common_steps)

pub run_acceptor-requires-clause-terms : goal.run_acceptor-requires-clause-terms
run_acceptor-requires-clause-terms c = grind (arith, common_steps)

pub run_intake-requires-clause-terms : goal.run_intake-requires-clause-terms
run_intake-requires-clause-terms c = grind (arith, common_steps)

pub run_intake-requires-clause-own : goal.run_intake-requires-clause-own
run_intake-requires-clause-own c = grind (arith, common_steps)

pub run_acceptor-requires-clause-own : goal.run_acceptor-requires-clause-own
run_acceptor-requires-clause-own c = grind (arith, common_steps)

pub returns-clause-goes_on : goal.returns-clause-goes_on
returns-clause-goes_on c = grind (arith, common_steps)

pub run_intake-requires-clause-most : goal.run_intake-requires-clause-most
run_intake-requires-clause-most c = grind (arith, common_steps)

pub returns-clause-leaves : goal.returns-clause-leaves
returns-clause-leaves c = grind (arith, common_steps)
