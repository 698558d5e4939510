use Rattle.std.specs.Prelude.{◌≡◌, map, take}
use Rattle.clap.specs.Words.{names_in}
use Rattle.console.proofs.command.push_commands.Given as goal

-- the commands so far are those of the first forms
abbrev pub invariant-forms : goal.invariant-forms
invariant-forms l = names_in l.commands.items ≡ map (λ form. form.name.now) (take l.form-index l.forms)
