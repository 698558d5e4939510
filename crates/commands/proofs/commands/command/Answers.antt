use Rattle.std.proofs.Common.{rules, inl, inr, arith}
use Rattle.std.proofs.lemmas.Grind.{common_steps}
use Rattle.commands.proofs.CommandEnds.{plan_ends, plan_ends_refused}
use Rattle.commands.proofs.commands.command.Goals as goal

pub returns-clause-done : goal.returns-clause-done
returns-clause-done g c = λ is_done. inr (inr (inr (inr (inl (record { words = _; following = search rules; ends_so = c.compare_claims_of.ensures.done is_done })))))

pub returns-clause-refused : goal.returns-clause-refused
returns-clause-refused g c = λ is_refused. inr (inr (inr (inr (inl (record { words = _; following = search rules; ends_so = c.compare_claims_of.ensures.refused is_refused })))))

pub returns-2-clause-done : goal.returns-2-clause-done
returns-2-clause-done g c = plan_ends _ _ c.plan_command.result c.plan_command.ensures.done

pub returns-2-clause-refused : goal.returns-2-clause-refused
returns-2-clause-refused g c = plan_ends_refused _ _ c.plan_command.result c.plan_command.ensures.refused

pub returns-in-Some-subcommand_matches-clause-done : goal.returns-in-Some-subcommand_matches-clause-done
returns-in-Some-subcommand_matches-clause-done c = grind (arith, common_steps)

pub returns-in-Some-subcommand_matches-2-clause-refused : goal.returns-in-Some-subcommand_matches-2-clause-refused
returns-in-Some-subcommand_matches-2-clause-refused c = grind (arith, common_steps)

pub returns-in-Some-clause-refused : goal.returns-in-Some-clause-refused
returns-in-Some-clause-refused c = grind (arith, common_steps)

pub returns-in-Some-subcommand_matches-3-clause-done : goal.returns-in-Some-subcommand_matches-3-clause-done
returns-in-Some-subcommand_matches-3-clause-done c = grind (arith, common_steps)

pub returns-in-Some-subcommand_matches-clause-refused : goal.returns-in-Some-subcommand_matches-clause-refused
returns-in-Some-subcommand_matches-clause-refused c = grind (arith, common_steps)

pub returns-in-Some-subcommand_matches-2-clause-done : goal.returns-in-Some-subcommand_matches-2-clause-done
returns-in-Some-subcommand_matches-2-clause-done c = grind (arith, common_steps)

pub returns-in-Some-clause-done : goal.returns-in-Some-clause-done
returns-in-Some-clause-done c = grind (arith, common_steps)
