use Rattle.std.proofs.Common.{◌∙◌, ◌++◌, ap}
use Rattle.std.proofs.lemmas.Result.{IfOk-weaker}
use Rattle.clap.specs.Words.{names_in}
use Rattle.console.proofs.Subcommands.{adds_names}
use Rattle.console.proofs.command.command_line.Goals as goal

pub returns : goal.returns
returns c =
    let commands = c.in_ok-commands.commands.items in
    IfOk-weaker c.subcommands.result _ _
    (λ m added. adds_names _ _ _ added ∙ (ap (λ names. names ++ names_in commands) c.in_ok-bare_line.ensures ∙ c.in_ok-commands.ensures)) c.subcommands.ensures
