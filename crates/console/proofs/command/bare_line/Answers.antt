use Rattle.std.proofs.Common.{◌∙◌, ap}
use Rattle.std.proofs.lemmas.Result.{IfOk-weaker}
use Rattle.clap.specs.Words.{names_in}
use Rattle.console.proofs.command.bare_line.Goals as goal

pub returns : goal.returns
returns c =
    let none = c.strict_line.ensures ∙ c.in_ok-line.ensures.alone in
    IfOk-weaker c.bin_name.result _ _ (λ m named. ap (λ f. names_in f.subcommands.items) named.0 ∙ none) c.bin_name.ensures
