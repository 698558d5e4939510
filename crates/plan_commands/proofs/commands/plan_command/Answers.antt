use Rattle.std.proofs.Common.{arith}
use Rattle.std.proofs.lemmas.Grind.{common_steps}
use Rattle.plan_commands.proofs.commands.plan_command.Goals as goal

pub returns-in-Some-subcommand_matches-2-clause-done : goal.returns-in-Some-subcommand_matches-2-clause-done
returns-in-Some-subcommand_matches-2-clause-done c = grind (arith, common_steps)

pub returns-in-Some-subcommand_matches-4-clause-refused : goal.returns-in-Some-subcommand_matches-4-clause-refused
returns-in-Some-subcommand_matches-4-clause-refused c = grind (arith, common_steps)

pub returns-in-Some-subcommand_matches-3-clause-refused : goal.returns-in-Some-subcommand_matches-3-clause-refused
returns-in-Some-subcommand_matches-3-clause-refused c = grind (arith, common_steps)

pub returns-in-Some-subcommand_matches-3-clause-done : goal.returns-in-Some-subcommand_matches-3-clause-done
returns-in-Some-subcommand_matches-3-clause-done c = grind (arith, common_steps)

pub returns-in-Some-clause-refused : goal.returns-in-Some-clause-refused
returns-in-Some-clause-refused c = grind (arith, common_steps)

pub returns-in-Some-subcommand_matches-4-clause-done : goal.returns-in-Some-subcommand_matches-4-clause-done
returns-in-Some-subcommand_matches-4-clause-done c = grind (arith, common_steps)

pub returns-in-Some-subcommand_matches-2-clause-refused : goal.returns-in-Some-subcommand_matches-2-clause-refused
returns-in-Some-subcommand_matches-2-clause-refused c = grind (arith, common_steps)

pub returns-in-Some-subcommand_matches-clause-done : goal.returns-in-Some-subcommand_matches-clause-done
returns-in-Some-subcommand_matches-clause-done c = grind (arith, common_steps)

pub returns-in-None-clause-refused : goal.returns-in-None-clause-refused
returns-in-None-clause-refused c = grind (arith, common_steps)

pub returns-in-Some-subcommand_matches-clause-refused : goal.returns-in-Some-subcommand_matches-clause-refused
returns-in-Some-subcommand_matches-clause-refused c = grind (arith, common_steps)

pub returns-in-None-clause-done : goal.returns-in-None-clause-done
returns-in-None-clause-done c = grind (arith, common_steps)

pub returns-in-Some-clause-done : goal.returns-in-Some-clause-done
returns-in-Some-clause-done c = grind (arith, common_steps)
