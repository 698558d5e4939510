-- The numbers of the exit statuses.
use Rattle.std.specs.Prelude.{◌≡◌, ◌⊎◌, ℕ}
use Rattle.console.specs.declared.exit_status.ExitStatus.{ExitStatus}
use Rattle.console.specs.declared.exit_status.ExitStatus.TheVariants.{Done, Refused, Usage, Resource}

-- the number that the caller of the program gets
abbrev pub code_of : ExitStatus → ℕ
code_of Done = 0
code_of Refused = 1
code_of Usage = 2
code_of Resource = 3

-- no input was judged: the command line is not valid, or the system failed
abbrev pub IsUnjudged : ExitStatus → Type 0
IsUnjudged status = (status ≡ Usage) ⊎ (status ≡ Resource)
