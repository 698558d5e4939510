use Rattle.std.proofs.Common.{rules}
use Rattle.value_command.proofs.command.command.Goals as goal

pub returns-in-Some-clause-done : goal.returns-in-Some-clause-done
returns-in-Some-clause-done g c = λ is_done. record { words = _; following = search rules; ends_so = c.value_alone.ensures.done is_done }

pub returns-in-Some-clause-refused : goal.returns-in-Some-clause-refused
returns-in-Some-clause-refused g c = λ is_refused. record { words = _; following = search rules; ends_so = c.value_alone.ensures.refused is_refused }

pub returns-in-None-clause-done : goal.returns-in-None-clause-done
returns-in-None-clause-done g c = λ is_done. absurd (cc (is_done, c.print_error.ensures))

pub returns-in-None-clause-refused : goal.returns-in-None-clause-refused
returns-in-None-clause-refused g c = λ is_refused. absurd (cc (is_refused, c.print_error.ensures))
