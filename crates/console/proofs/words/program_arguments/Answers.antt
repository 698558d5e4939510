use Rattle.std.proofs.Common.{inl}
use Rattle.console.proofs.words.program_arguments.Goals as goal

pub returns-in-Err-2 : goal.returns-in-Err-2
returns-in-Err-2 g c = inl c.print_error.ensures
